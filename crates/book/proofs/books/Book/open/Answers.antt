use Rattle.std.proofs.Common.{arith}
use Rattle.book.proofs.Moves.{new_moved}
use Rattle.book.proofs.Opened.{opened_sound}
use Rattle.book.proofs.books.Book.open.Goals as goal

pub returns-clause-sound : goal.returns-clause-sound
returns-clause-sound g c =
    opened_sound c.args.settings c.args.limit (omega arith, omega arith) (omega arith, omega arith) _
    (new_moved c.args.settings c.args.limit c.new.result c.new.ensures.slots c.new.ensures.bits).is g.K.Kind.kind
