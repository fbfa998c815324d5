use Rattle.std.proofs.Common.{true, refl}
use Rattle.book.proofs.Asking.{next_is}
use Rattle.book.proofs.books.Book.next_held.Goals as goal

pub returns : goal.returns
returns c = next_is c.args.self.now (λ j. true) (λ j. true) (λ j. refl) c.held.result c.held.ensures c.args.after c.next_number.result c.next_number.ensures
