use Rattle.std.proofs.Common.{sym, ◌∙◌}
use Rattle.std.proofs.lemmas.Bool.{cond-true}
use Rattle.book.proofs.Places.{removed_at, removed_facts}
use Rattle.book.proofs.books.Book.withdraw.Goals as goal

pub invariant_of-self : goal.invariant_of-self
invariant_of-self c = removed_facts c.args.self.now c.remove.new.self c.args.job c.in_ok-leaving.leaving.index c.in_ok-leaving.ensures.stands c.remove.ensures.slots c.remove.ensures.bits

pub returns-clause-leaves : goal.returns-clause-leaves
returns-clause-leaves c =
    let a = c.in_ok-leaving.ensures in
    (removed_at c.args.self.now c.remove.new.self c.args.job c.in_ok-leaving.leaving.index a.stands c.remove.ensures.slots c.remove.ensures.bits).is
    ∙ sym (cond-true _ _ _ a.active)
