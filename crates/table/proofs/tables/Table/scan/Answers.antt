use Rattle.std.proofs.Common.{refl, arith}
use Rattle.graph.proofs.Placing.{placed_index, unplaced}
use Rattle.table.proofs.Scans.{asked_yes, asked_no}
use Rattle.table.proofs.tables.Table.scan.Goals as goal
use Rattle.table.proofs.tables.Table.scan.Goals.{in-Some+then-question, in-Some+else-question, in_default}

pub loop-index-preserved : goal.loop-index-preserved
loop-index-preserved g c =
    elim c.match-new.branch [
      | in-Some+then-question w ↦
          simp w.places-is
          (asked_yes _ _ _ c.loop-index.invariant _ w.in-Some.place.index w.question.result
          (placed_index c.loop-index.index w.in-Some.place w.in-Some.ensures)
          (record { shown = _; shows = refl; says = record { met = w.question.ensures } }) w.if-question.true w.insert.ensures)
      | in-Some+else-question w ↦
          simp w.places-is
          (asked_no _ _ _ c.loop-index.invariant w.question.result
          (record { shown = _; shows = refl; says = record { met = w.question.ensures } }) w.if-question.false)
      | in_default w ↦ let past = unplaced c.loop-index.index w.in_default.ensures in absurd (let z : ⊥ = omega arith in z)
    ]
