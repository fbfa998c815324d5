use Rattle.std.proofs.Common.{eqb, sym, ap, ◌∙◌}
use Rattle.book.proofs.Counts.{held_many}
use Rattle.book.proofs.books.Book.is_full.Goals as goal

pub returns : goal.returns
returns c = ap (λ n. eqb n 64) (c.len.ensures ∙ sym (held_many c.args.self.now c.held.result c.held.ensures))
