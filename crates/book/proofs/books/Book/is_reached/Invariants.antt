use Rattle.std.proofs.Common.{ℕ, not, T}
use Rattle.graph.specs.Members.{has}
use Rattle.graph.specs.Walk.{Walk, anywhere}
use Rattle.table.specs.Slots.{slot, bit, passes}
use Rattle.book.proofs.books.Book.is_reached.Given as goal

-- those that are left are active, and so are all from which a path leads to the job
abbrev pub invariant-loop-start : goal.invariant-loop-start
invariant-loop-start l =
    ((k : ℕ) → T (has l.start-iterator.left k) → T (passes (λ j. not j.finished) (slot l.self.table k)))
    × ((k : ℕ) → T (passes (λ j. not j.finished) (slot l.self.table k)) → Walk (bit l.self.table) anywhere k l.place.index → T (has l.start-iterator.left k))
