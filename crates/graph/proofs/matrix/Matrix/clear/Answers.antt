use Rattle.std.proofs.Common.{not, ◌&&◌, eqb, ap, ◌∙◌, arith}
use Rattle.graph.proofs.Lines.{done_all, done_set, row_was, less_past, cleared}
use Rattle.graph.proofs.matrix.Matrix.clear.Goals as goal

pub loop-row-preserved : goal.loop-row-preserved
loop-row-preserved c =
    let rows = c.args.self.now.rows in
    let i = c.loop-row.row-index in
    done_set _ rows c.loop-row.row-items i c.loop-row.invariant _ (omega arith) (λ q.
    c.remove.ensures q ∙ ap (λ b. b && not (eqb q c.args.place.index)) (row_was _ rows _ i c.loop-row.invariant q))

pub returns : goal.returns
returns c =
    let rows = c.args.self.now.rows in
    simp c.index.ensures
    (cleared rows c.loop-row.row-items c.args.place.index c.empty.result (omega (arith, c.loop-row.invariant.long, c.args.place.small)) c.empty.ensures
    (done_all _ rows c.loop-row.row-items c.loop-row.row-index c.loop-row.invariant (omega arith) (λ p q. less_past rows c.args.self.now.sized p c.args.place.index q)))
