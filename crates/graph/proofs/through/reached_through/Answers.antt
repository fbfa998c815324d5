use Rattle.graph.proofs.Between.{answers_through}
use Rattle.graph.proofs.through.reached_through.Goals as goal

pub returns : goal.returns
returns g c to = answers_through _ _ _ _ _ (c.reached.ensures to)
