use Rattle.book.proofs.books.Book.leads.Goals as goal

pub returns : goal.returns
returns c = rw c.arrows.ensures at c.reaches.ensures
