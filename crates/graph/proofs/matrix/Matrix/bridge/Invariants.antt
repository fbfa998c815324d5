use Rattle.graph.proofs.Lines.{Done, joint}
use Rattle.graph.proofs.matrix.Matrix.bridge.Given as goal

abbrev pub invariant-loop-row : goal.invariant-loop-row
invariant-loop-row l = Done (joint l.initial.row-items l.place.index) l.row-index l.initial.row-items l.row-items
