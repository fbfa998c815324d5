use Rattle.stream.proofs.Puts.{puts_then}
use Rattle.stream.proofs.output.Output.number.Goals as goal

pub returns : goal.returns
returns c = puts_then c.in_ok-put.ensures c.spaced.ensures
