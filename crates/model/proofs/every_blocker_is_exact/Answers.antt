use Rattle.model.proofs.every_blocker_is_exact.Goals as goal
use Rattle.model.proofs.Blocker.{blocker_exact}

pub returns : goal.returns
returns c = blocker_exact
