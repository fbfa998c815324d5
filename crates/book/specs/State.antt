-- The book of the model that a book is, and the places of its jobs.
use Rattle.std.specs.Prelude.{◌≡◌, ℕ, true, T, Some}
use Rattle.model.specs.Book as Model
use Rattle.table.specs.declared.jobs.Job.{Job}
use Rattle.table.specs.Slots.{slot, numbered}
use Rattle.book.specs.declared.books.Book.{Book}
use Rattle.book.specs.View.{view}

abbrev pub model : Book → Model.Book
model b = view b.settings b.limit b.last b.table

-- the job n stands at the place i
abbrev pub StandsAt : Book → ℕ → ℕ → Type 0
StandsAt b n i = T (numbered n (slot b.table i))

-- and is the job x
pub record FoundAt (b : Book) (n i : ℕ) (x : Job) : Type 0 where
  pub here : slot b.table i ≡ Some x
  pub number : x.number ≡ n

-- and is active
pub record ActiveAt (b : Book) (n i : ℕ) : Type 0 where
  pub stands : StandsAt b n i
  pub active : Model.is_active (model b) n ≡ true
