-- What an iterator over the jobs of a book has left.
use Rattle.std.specs.Prelude.{ℕ, List, filter, nat_lt}
use Rattle.model.specs.Book as Model
use Rattle.book.specs.declared.books.jobs.Among.{Among}
use Rattle.book.specs.declared.books.jobs.Among.TheVariants.{Held, Finished}
use Rattle.book.specs.declared.books.jobs.Jobs.{Jobs}
use Rattle.book.specs.State.{model}

-- the numbers of the jobs of a kind
abbrev pub numbers : Among → Model.Book → List ℕ
numbers Held b = Model.held b
numbers Finished b = Model.finished b

-- the numbers of the jobs that the iterator is over
abbrev pub listed : Jobs → List ℕ
listed s = numbers s.among (model s.book.now)

-- those that are still to come
abbrev pub left : Jobs → List ℕ
left s = filter (nat_lt s.after) (listed s)
