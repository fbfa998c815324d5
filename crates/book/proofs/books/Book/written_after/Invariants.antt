use Rattle.table.specs.Slots.{slot, passes, has_setting}
use Rattle.table.specs.Touching.{wrote}
use Rattle.book.proofs.Gathering.{Gathered}
use Rattle.book.proofs.books.Book.written_after.Given as goal

abbrev pub invariant-loop-head : goal.invariant-loop-head
invariant-loop-head l = Gathered (λ k e. passes (wrote e) (slot l.self.table k)) l.initial.head-iterator.left l.head-iterator.left (has_setting l.written)
