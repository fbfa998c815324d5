use Rattle.std.proofs.Common.{leb, sym, ◌∙◌, ap₂}
use Rattle.book.proofs.Counts.{active_many}
use Rattle.book.proofs.books.Book.limit_reached.Goals as goal

pub returns : goal.returns
returns c = ap₂ leb c.from.ensures (c.len.ensures ∙ sym (active_many c.args.self.now c.active.result c.active.ensures))
