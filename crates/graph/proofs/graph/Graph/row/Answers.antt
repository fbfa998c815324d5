use Rattle.std.proofs.Common.{arith}
use Rattle.graph.specs.Members.{has}
use Rattle.graph.proofs.Placing.{placed_index, unplaced}
use Rattle.graph.proofs.Rows.{row_hit, row_pass}
use Rattle.graph.proofs.graph.Graph.row.Goals as goal
use Rattle.graph.proofs.graph.Graph.row.Goals.{in-Some+then-joins, in-Some+else-joins, in_default}

pub loop-index-preserved : goal.loop-index-preserved
loop-index-preserved g c =
    elim c.match-new.branch [
      | in-Some+then-joins w ↦
          simp w.row-is
          (row_hit _ _ (has c.loop-index.row) _ w.in-Some.to.index (placed_index _ w.in-Some.to w.in-Some.ensures) w.if-joins.ensures
          w.insert.ensures c.loop-index.invariant)
      | in-Some+else-joins w ↦
          simp w.row-is
          (row_pass _ _ (has c.loop-index.row) w.in-Some.to.index (placed_index _ w.in-Some.to w.in-Some.ensures) w.if-joins.ensures c.loop-index.invariant)
      | in_default w ↦
          let past = unplaced c.loop-index.index w.in_default.ensures in
          absurd (let z : ⊥ = omega arith in z)
    ]
