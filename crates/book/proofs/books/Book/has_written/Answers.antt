use Rattle.std.proofs.Common.{rules}
use Rattle.book.proofs.Asking.{written_is}
use Rattle.book.proofs.books.Book.has_written.Goals as goal

pub returns : goal.returns
returns c = written_is c.args.self.now c.args.job c.args.setting c.new.result c.new.ensures c.is_some_and.result c.is_some_and.ensures (λ x q. search rules)
