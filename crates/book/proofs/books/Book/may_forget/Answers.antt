use Rattle.std.proofs.Common.{rules, refl}
use Rattle.book.specs.State.{model}
use Rattle.book.proofs.Blocking.{forgettable}
use Rattle.book.proofs.books.Book.may_forget.Goals as goal

pub returns : goal.returns
returns c = forgettable (model c.args.self.now) c.args.job c.blocker.result c.blocker.ensures _
    (λ o p. let q = rw p at c.is_ok_and.ensures in search rules)
    (λ r p. let q = rw p at c.is_ok_and.ensures in rw q refl)
