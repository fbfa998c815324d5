use Rattle.std.proofs.Common.{true}
use Rattle.book.specs.State.{model}
use Rattle.book.proofs.Left.{all_left}
use Rattle.book.proofs.books.Book.held_jobs.Goals as goal

pub returns : goal.returns
returns c = all_left (model c.args.self.now) (λ j. true)
