use Rattle.graph.specs.Members.{has}
use Rattle.graph.proofs.Rows.{RowTo}
use Rattle.graph.proofs.graph.Graph.row.Given as goal

abbrev pub invariant-loop-index : goal.invariant-loop-index
invariant-loop-index g l = RowTo (g.Self.Graph.arrow l.self l.from.index) l.index (has l.row)
