use Rattle.std.specs.Fn.{FnReturnsAt}
use Rattle.graph.specs.Members.{has}
use Rattle.table.specs.Slots.{slot}
use Rattle.table.proofs.Scans.{Asked}
use Rattle.table.proofs.tables.Table.scan.Given as goal

abbrev pub invariant-loop-index : goal.invariant-loop-index
invariant-loop-index g l = Asked (λ i. FnReturnsAt g.F.Fn l.question (slot l.self i)) l.index (has l.places)
