use Rattle.std.proofs.Common.{◌≡◌, ℕ}
use Rattle.graph.proofs.Lines.{more}
use Rattle.graph.proofs.matrix.Matrix.join_all.Given as goal

-- with the arrows from the places still to come there are all that are to be drawn
abbrev pub invariant-loop-place : goal.invariant-loop-place
invariant-loop-place l = (p q : ℕ) → more l.self.rows l.place-iterator.left l.to.index p q ≡ more l.fn.self.rows l.fn.from l.to.index p q
