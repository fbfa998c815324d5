use Rattle.std.proofs.Common.{◌≡◌, ◌+◌, length, sym, ap, ◌∙◌, arith}
use Rattle.model.specs.Sweeps.{sweep_answer, sweep_next, sweep_book}
use Rattle.model.proofs.Sweeps.{sweep_exact}
use Rattle.book.specs.State.{model}
use Rattle.book.proofs.Sweeping.{named_held, one_forgotten}
use Rattle.book.proofs.Wholes.{possible}
use Rattle.book.proofs.books.Book.sweep.Given as given
use Rattle.book.proofs.books.Book.sweep.Goals as goal
use Rattle.book.proofs.books.Book.sweep.Goals.{After-forget}

module _ (g : given.Over) (c : After-forget g) where
  after : (sweep_answer g.P.Policy.does c.loop-job.policy (model c.loop-job.self) ≡ sweep_answer g.P.Policy.does c.consult.new.self (model c.forget.new.self) + 1)
      × (sweep_next g.P.Policy.does c.consult.new.self (model c.forget.new.self) ≡ sweep_next g.P.Policy.does c.loop-job.policy (model c.loop-job.self))
      × (sweep_book g.P.Policy.does c.consult.new.self (model c.forget.new.self) ≡ sweep_book g.P.Policy.does c.loop-job.policy (model c.loop-job.self))
  after =
      let named = sym c.in-Some.ensures.answers in
      let h = possible c.loop-job.self in
      one_forgotten g.P.Policy.does g.met.P.Policy.lawful c.loop-job.policy (model c.loop-job.self) h c.in-Some.job named
      c.consult.new.self (model c.forget.new.self) c.consult.ensures.moves
      (c.forget.ensures (named_held g.P.Policy.does g.met.P.Policy.lawful c.loop-job.policy (model c.loop-job.self) h c.in-Some.job named))

pub overflow_add-count : goal.overflow_add-count
overflow_add-count g c =
    let h = possible c.args.self.now in
    let few = (sweep_exact g.P.Policy.does g.met.P.Policy.lawful c.args.policy.now (model c.args.self.now) h).few in
    let room = h.held_fit in
    let so_far = c.loop-job.invariant.0 in
    let one = (after g (goal.at.overflow_add-count g c).After-forget).0 in
    omega arith

pub loop-job-smaller : goal.loop-job-smaller
loop-job-smaller g c = let one = (after g (goal.at.loop-job-smaller g c).After-forget).0 in omega arith

pub loop-job-preserved : goal.loop-job-preserved
loop-job-preserved g c =
    let a = after g (goal.at.loop-job-preserved g c).After-forget in
    (let one = a.0 in let so_far = c.loop-job.invariant.0 in omega arith, a.1 ∙ c.loop-job.invariant.1, a.2 ∙ c.loop-job.invariant.2)

pub returns : goal.returns
returns g c =
    let whole = sweep_exact g.P.Policy.does g.met.P.Policy.lawful c.args.policy.now (model c.args.self.now) (possible c.args.self.now) in
    let rest = (sweep_exact g.P.Policy.does g.met.P.Policy.lawful c.loop-job.policy (model c.loop-job.self) (possible c.loop-job.self)).stops (sym c.in_default.ensures.answers) in
    record {
      answers = let so_far = c.loop-job.invariant.0 in let none = ap length rest.0 in omega arith;
      moves = c.consult.ensures.moves ∙ (sym rest.1 ∙ c.loop-job.invariant.1);
      leaves = sym rest.2 ∙ c.loop-job.invariant.2;
      exact = whole;
    }
