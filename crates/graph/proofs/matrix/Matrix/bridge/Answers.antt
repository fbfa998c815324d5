use Rattle.std.proofs.Common.{◌||◌, ap, ◌∙◌, ap₂, arith}
use Rattle.graph.specs.Drawn.{drawn}
use Rattle.graph.proofs.Arrows.{drawn_row}
use Rattle.graph.proofs.Lines.{done_all, done_set, row_was, joint_hit, joint_pass, joint_past}
use Rattle.graph.proofs.matrix.Matrix.bridge.Goals as goal
use Rattle.graph.proofs.matrix.Matrix.bridge.Goals.{then-contains, else-contains}

pub loop-row-preserved : goal.loop-row-preserved
loop-row-preserved c =
    let rows = c.args.self.now.rows in
    let k = c.args.place.index in
    let i = c.loop-row.row-index in
    let d = c.loop-row.invariant in
    elim c.if-contains.branch [
      | then-contains w ↦
          simp w.row-items-is
          (done_set _ rows c.loop-row.row-items i d _ (omega arith) (λ q.
          w.union.ensures q ∙ ap₂ ◌||◌ (row_was _ rows _ i d q) (drawn_row rows _ q ∙ ap (λ n. drawn rows n q) c.index.ensures)
          ∙ joint_hit rows i q k (w.if-contains.ensures ∙ row_was _ rows _ i d k)))
      | else-contains w ↦
          simp w.row-items-is
          (done_set _ rows c.loop-row.row-items i d _ (omega arith) (λ q.
          row_was _ rows _ i d q ∙ joint_pass rows i q k (w.if-contains.ensures ∙ row_was _ rows _ i d k)))
    ]

pub returns : goal.returns
returns c = done_all _ c.args.self.now.rows c.loop-row.row-items c.loop-row.row-index c.loop-row.invariant (omega arith)
    (λ p q. joint_past c.args.self.now.rows c.args.self.now.sized p c.args.place.index q)
