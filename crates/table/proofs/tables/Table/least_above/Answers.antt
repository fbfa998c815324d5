use Rattle.std.proofs.Common.{◌≡◌, ℕ, false, ◌&&◌, sym, ap, subst, ◌∙◌, rules, arith}
use Rattle.graph.specs.Members.{has}
use Rattle.graph.proofs.Listing.{listed_head, listed_over}
use Rattle.table.specs.Least.{eligible}
use Rattle.table.proofs.Bests.{best_step, best_end, put_back}
use Rattle.table.proofs.Scans.{scanned}
use Rattle.table.proofs.tables.Table.least_above.Goals as goal
use Rattle.table.proofs.tables.Table.least_above.Goals.{After-common}

all_of : (c : goal.After-common) (i : ℕ) → has c.common.result i ≡ eligible c.args.self.now c.args.among c.args.after i
all_of c i =
    c.common.ensures i
    ∙ ap (λ b. has c.args.among i && b) (scanned _ c.args.self.now.jobs c.scan.result c.args.self.now.sized (λ k h. let a = c.scan.ensures k h in search rules) i)

pub returns-in_err-least : goal.returns-in_err-least
returns-in_err-least c = simp c.from_residual.ensures (λ i.
    sym (all_of (goal.at.returns-in_err-least c).After-common i)
    ∙ subst (λ s. has s i ≡ false) c.into_iter-places.ensures.into_iter_gives (listed_over _ c.in_err-least.ensures.steps.0 i))

pub loop-place-preserved-then-number_at : goal.loop-place-preserved-then-number_at
loop-place-preserved-then-number_at c =
    let t = listed_head _ _ _ c.in-Some.ensures.steps in
    best_step _ _ _ _ _ c.in-Some.place.index c.in-Some.place.index c.loop-place.invariant t (c.loop-place.invariant.within _ t.member)
    (omega (arith, c.number_at.ensures, c.number_at-in-loop-place.ensures)) (omega arith)

pub loop-place-preserved : goal.loop-place-preserved
loop-place-preserved c =
    best_step _ _ _ _ _ c.in-Some.place.index c.loop-place.least.index c.loop-place.invariant (listed_head _ _ _ c.in-Some.ensures.steps) c.loop-place.invariant.passing
    (omega arith) (omega (arith, c.number_at.ensures, c.number_at-in-loop-place.ensures))

pub returns : goal.returns
returns c =
    best_end _ _ _ c.loop-place.place-iterator.left c.loop-place.least.index c.loop-place.invariant (listed_over _ c.in-None.ensures.steps.0) (λ i.
    put_back _ _ _ _ _ c.into_iter-places.ensures.into_iter_gives c.in_ok-least.ensures.steps (ap (λ p. p.left) c.into_iter-place-iterator.ensures.into_iter_gives) i
    ∙ all_of (goal.at.returns c).After-common i)
