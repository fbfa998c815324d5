use Rattle.book.specs.State.{model}
use Rattle.book.proofs.Left.{all_left}
use Rattle.book.proofs.books.Book.finished_jobs.Goals as goal

pub returns : goal.returns
returns c = all_left (model c.args.self.now) (λ j. j.finished)
