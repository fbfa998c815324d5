use Rattle.graph.specs.Members.{has}
use Rattle.table.specs.Least.{number_of}
use Rattle.table.specs.Slots.{slot}
use Rattle.table.proofs.Bests.{Best, with_one}
use Rattle.table.proofs.tables.Table.least_above.Given as goal

abbrev pub invariant-loop-place : goal.invariant-loop-place
invariant-loop-place l = Best (with_one l.initial.least.index l.initial.place-iterator.left) (λ i. number_of (slot l.self i)) (has l.place-iterator.left) l.least.index
