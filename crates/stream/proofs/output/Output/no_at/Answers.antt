use Rattle.stream.proofs.Puts.{puts_then}
use Rattle.stream.proofs.output.Output.no_at.Goals as goal

pub returns : goal.returns
returns c = puts_then c.in_ok-no.ensures c.spaced.ensures
