use Rattle.std.proofs.Common.{sym, ap, ◌∙◌, length, rules}
use Rattle.book.proofs.Left.{no_more, one_more}
use Rattle.book.proofs.books.jobs.JobsIterator.next.Goals as goal

pub returns-in_err-self-clause-steps : goal.returns-in_err-self-clause-steps
returns-in_err-self-clause-steps c =
    let none = no_more c.args.self.now (sym c.in_err-self.was ∙ c.peek.ensures) in
    rw c.from_residual.ensures (none, none)

pub returns-clause-steps : goal.returns-clause-steps
returns-clause-steps c = one_more c.args.self.now c.in_ok-self.field-0 (sym c.in_ok-self.was ∙ c.peek.ensures)

pub returns-clause-goes : goal.returns-clause-goes
returns-clause-goes c =
    let fewer = ap length (one_more c.args.self.now c.in_ok-self.field-0 (sym c.in_ok-self.was ∙ c.peek.ensures)) in
    search (rules, fewer)
