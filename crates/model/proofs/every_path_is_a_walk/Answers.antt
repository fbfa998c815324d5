use Rattle.model.proofs.every_path_is_a_walk.Goals as goal
use Rattle.model.proofs.BookGraph.{paths_exact}

pub returns : goal.returns
returns c = paths_exact
