use Rattle.model.proofs.every_begin_is_exact.Goals as goal
use Rattle.model.proofs.Begin.{begin_exact}

pub returns : goal.returns
returns g c = begin_exact
