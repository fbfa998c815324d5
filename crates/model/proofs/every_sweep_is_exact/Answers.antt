use Rattle.model.proofs.every_sweep_is_exact.Goals as goal
use Rattle.model.proofs.Sweeps.{sweep_exact}

pub returns : goal.returns
returns g c = sweep_exact
