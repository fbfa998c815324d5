use Rattle.std.proofs.Common.{ℕ, not, T, eqb, sym, subst}
use Rattle.graph.specs.Members.{has}
use Rattle.graph.specs.Walk.{Walk, anywhere}
use Rattle.graph.proofs.Listing.{listed_head, listed_over}
use Rattle.model.proofs.Tests.{and_i, and_l, apart}
use Rattle.table.specs.Slots.{bit}
use Rattle.book.proofs.Asking.{not_held_not_reached, reached_from, not_reached_from}
use Rattle.book.proofs.books.Book.is_reached.Goals as goal

pub returns-in_default : goal.returns-in_default
returns-in_default c = not_held_not_reached c.args.self.now c.args.job c.in_default.ensures

pub loop-start-init : goal.loop-start-init
loop-start-init c = let a = c.into_iter-start-iterator.ensures.into_iter_gives in (
  λ k t. subst T (c.active-start-items.ensures k) (subst (λ s. T (has s k)) a t),
  λ k t w. subst (λ s. T (has s k)) (sym a) (subst T (sym (c.active-start-items.ensures k)) t),
)

pub returns-then-leads : goal.returns-then-leads
returns-then-leads c =
    let k : ℕ = c.in-Some-start.start.index in
    reached_from c.args.self.now c.args.job c.in-Some.place.index c.in-Some.ensures k
    (c.loop-start.invariant.0 k (listed_head _ _ _ c.in-Some-start.ensures.steps).member)
    (c.leads.ensures.0 (subst T (sym c.if-leads.true) tt))

pub loop-start-preserved : goal.loop-start-preserved
loop-start-preserved c =
    let first = listed_head _ _ _ c.in-Some-start.ensures.steps in
    let n : ℕ = c.in-Some-start.start.index in
    let ans = c.leads.ensures in (
      λ k t. c.loop-start.invariant.0 k (and_l (has c.loop-start.start-iterator.left k) (not (eqb k n)) (subst T (first.others k) t)),
      λ k t w. subst T (sym (first.others k)) (and_i (has c.loop-start.start-iterator.left k) (not (eqb k n)) (c.loop-start.invariant.1 k t w)
          (apart k n (λ q. subst T c.if-leads.false (ans.1 (subst (λ m. Walk (bit c.args.self.now.table) anywhere m c.in-Some.place.index) q w))))),
    )

pub returns : goal.returns
returns c =
    not_reached_from c.args.self.now c.args.job c.in-Some.place.index c.in-Some.ensures
    (λ k t w. subst T (listed_over _ c.in-None.ensures.steps.0 k) (c.loop-start.invariant.1 k t w))
