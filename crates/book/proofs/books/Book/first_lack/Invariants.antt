use Rattle.std.proofs.Common.{ℕ, ◌-◌, ◌<◌, T}
use Rattle.graph.specs.Members.{has}
use Rattle.model.specs.Blocker.{Lacking}
use Rattle.table.specs.Slots.{slot, passes}
use Rattle.table.specs.Touching.{touched}
use Rattle.book.specs.Lacks.{as_strong}
use Rattle.book.specs.State.{model}
use Rattle.book.proofs.books.Book.first_lack.Given as goal

-- no pair of a job up to the last one lacks a stand-in
abbrev pub invariant-loop-start : goal.invariant-loop-start
invariant-loop-start l = (j e : ℕ) → Lacking (model l.self) l.old.number j e → l.last < j

abbrev pub decreases-loop-start : goal.decreases-loop-start
decreases-loop-start l = l.self.last - l.last

-- those that are left were touched, and so are all that are lacking, seen from the last job
abbrev pub invariant-settings : goal.invariant-settings
invariant-settings l =
    ((e : ℕ) → T (has l.setting-iterator.left.left e) → T (touched e l.old))
    × ((e : ℕ) → Lacking (model l.self) l.old.number l.last e → T (has l.setting-iterator.left.left e))

-- those that are left are of the others, and so are all that are strong enough
abbrev pub invariant-loop-other : goal.invariant-loop-other
invariant-loop-other l =
    ((k : ℕ) → T (has l.other-iterator.left k) → T (has l.others k))
    × ((k : ℕ) → T (has l.others k) → T (passes (as_strong l.old l.setting.index) (slot l.self.table k)) → T (has l.other-iterator.left k))
