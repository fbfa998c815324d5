use Rattle.std.proofs.Common.{◌∙◌, rules}
use Rattle.book.proofs.Asking.{no_arrow, arrow_is}
use Rattle.book.proofs.Options.{either_way}
use Rattle.book.proofs.books.Book.joins.Goals as goal

pub returns : goal.returns
returns c = either_way c.ends.result c.ends.ensures c.is_some_and.ensures
    (λ none off. off ∙ no_arrow c.args.self.now c.args.from c.args.to none)
    (λ e at on. let is = arrow_is c.args.self.now c.args.from c.args.to e.0.index e.1.index at.0 at.1 in search (rules, is))
