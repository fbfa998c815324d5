use Rattle.std.proofs.Common.{refl}
use Rattle.model.specs.Sweeps.{sweep_from}
use Rattle.worked.proofs.worked_books_hold.Goals as goal

pub returns : goal.returns
unfolding sweep_from
returns c = refl
