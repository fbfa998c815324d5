use Rattle.graph.proofs.Lines.{Done, less}
use Rattle.graph.proofs.matrix.Matrix.clear.Given as goal

abbrev pub invariant-loop-row : goal.invariant-loop-row
invariant-loop-row l = Done (less l.initial.row-items l.place.index) l.row-index l.initial.row-items l.row-items
