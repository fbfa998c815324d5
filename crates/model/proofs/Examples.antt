-- The worked examples hold by computing.
use Rattle.std.proofs.Common.{refl}
use Rattle.model.specs.Sweeps.{sweep_from}
use Rattle.model.specs.Worked.{WorkedExamplesHold}

pub worked : WorkedExamplesHold
unfolding sweep_from
worked = refl
