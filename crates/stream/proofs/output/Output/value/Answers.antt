use Rattle.std.proofs.Common.{replicate, ap}
use Rattle.stream.specs.Lines.{hex}
use Rattle.stream.proofs.Puts.{puts_then, puts_same, front_written}
use Rattle.stream.proofs.output.Output.value.Goals as goal

pub returns : goal.returns
returns g c =
    puts_then c.in_ok-put.ensures
    (puts_same (ap hex (front_written _ c.write.new.out (replicate 8 0) _ c.in_ok-width.ensures.answer c.in_ok-width.ensures.out)) c.hex.ensures)
