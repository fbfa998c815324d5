use Rattle.book.proofs.Places.{absent}
use Rattle.book.proofs.books.Book.find.Goals as goal

pub returns-in_err-place : goal.returns-in_err-place
returns-in_err-place c = rw c.from_residual.ensures (absent c.args.self.now c.args.job c.in_err-place.ensures)
