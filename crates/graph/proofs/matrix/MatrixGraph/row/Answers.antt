use Rattle.graph.proofs.Arrows.{drawn_row}
use Rattle.graph.proofs.matrix.MatrixGraph.row.Goals as goal

pub returns : goal.returns
returns c k = simp c.index.ensures (drawn_row c.args.self.now.rows c.args.from.index k)
