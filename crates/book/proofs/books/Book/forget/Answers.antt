use Rattle.std.proofs.Common.{subst}
use Rattle.book.proofs.Places.{absent, forgotten_at, forgotten_facts}
use Rattle.book.proofs.Shows.{Held}
use Rattle.book.proofs.books.Book.forget.Goals as goal

pub invariant_of-self : goal.invariant_of-self
invariant_of-self c = forgotten_facts c.args.self.now c.forget.new.self c.args.job c.in-Some.place.index c.in-Some.ensures c.forget.ensures.slots c.forget.ensures.bits

pub returns-in-Some : goal.returns-in-Some
returns-in-Some c = λ h. (forgotten_at c.args.self.now c.forget.new.self c.args.job c.in-Some.place.index c.in-Some.ensures c.forget.ensures.slots c.forget.ensures.bits).is

pub returns-in_default : goal.returns-in_default
returns-in_default c = λ h. absurd (subst Held (absent c.args.self.now c.args.job c.in_default.ensures) h)
