use Rattle.std.proofs.Common.{refl}
use Rattle.book.proofs.Asking.{next_is}
use Rattle.book.proofs.books.Book.next_finished.Goals as goal

pub returns : goal.returns
returns c = next_is c.args.self.now (λ j. j.finished) (λ j. j.finished) (λ j. refl) c.finished.result c.finished.ensures c.args.after c.next_number.result c.next_number.ensures
