use Rattle.std.proofs.Common.{ap}
use Rattle.stream.specs.Lines.{spaced_number}
use Rattle.stream.proofs.Puts.{puts_then, puts_same}
use Rattle.stream.proofs.output.Output.no.Goals as goal

pub returns : goal.returns
returns c = puts_then c.in_ok-put.ensures (puts_same (ap spaced_number c.from.ensures) c.spaced.ensures)
