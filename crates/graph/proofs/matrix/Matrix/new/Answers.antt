use Rattle.std.proofs.Common.{rules}
use Rattle.graph.proofs.Arrows.{drawn_none}
use Rattle.graph.proofs.matrix.Matrix.new.Goals as goal

pub returns : goal.returns
returns c = search (rules, drawn_none)
