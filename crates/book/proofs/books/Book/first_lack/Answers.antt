use Rattle.std.proofs.Common.{◌≡◌, ℕ, ◌-◌, ◌<◌, ◌≤◌, not, ◌&&◌, T, eqb, Some, sym, refl, ap, ◌∙◌, subst, inl, inr, arith}
use Rattle.std.proofs.lemmas.Bool.{cases_eq}
use Rattle.graph.specs.declared.matrix.Matrix.{Matrix}
use Rattle.graph.specs.Members.{has}
use Rattle.graph.specs.Drawn.{drawn}
use Rattle.graph.specs.Walk.{Answers}
use Rattle.graph.proofs.Listing.{listed_head, listed_over}
use Rattle.model.proofs.Tests.{and_i, and_l, apart}
use Rattle.model.specs.Blocker.{Lacking}
use Rattle.table.specs.Slots.{slot, passes}
use Rattle.table.specs.Touching.{touched}
use Rattle.book.specs.Lacks.{as_strong}
use Rattle.book.specs.State.{model}
use Rattle.book.proofs.Lacking.{Viewed, not_reached, touched_there, touched_below, stood_in, is_lacking}
use Rattle.book.proofs.Viewing.{active_from_one, none_later, later, next_listed, next_given, next_least}
use Rattle.book.proofs.books.Book.first_lack.Goals as goal
use Rattle.book.proofs.books.Book.first_lack.Goals.{After-remove}

module _ (c : After-remove) where
  start : slot c.args.self.now.table c.in-Some.start.index ≡ Some c.in-Some.viewer
  start = c.in-Some.ensures.here

  viewed : Viewed c.args.self.now c.args.place.index c.args.old c.in-Some.start.index c.in-Some.viewer c.reached_through-reach.result c.remove.new.self
  viewed = record {
    at = c.requires;
    start = start;
    done = c.finished-finished.result;
    done_is = c.finished-finished.ensures;
    reached = λ to. subst (λ (m : Matrix). Answers (drawn m.rows) (has c.finished-finished.result) c.in-Some.start.index to (has c.reached_through-reach.result to)) c.arrows.ensures (c.reached_through-reach.ensures to);
    others_are = λ k. c.remove.ensures k ∙ ap (λ v. v && not (eqb k c.args.place.index)) (c.common-others.ensures k);
  }

  beyond : (j e : ℕ) → Lacking (model c.args.self.now) c.args.old.number j e → c.in-Some.viewer.number ≤ j
  beyond j e w = next_least c.args.self.now (λ j. not j.finished) (λ j. not j.finished) (λ j. refl) c.active-active.result c.active-active.ensures c.loop-start.last
      c.in-Some.start.index c.in-Some.viewer start c.in-Some.ensures.least j w.0 (c.loop-start.invariant j e w)

  after : ((e : ℕ) → Lacking (model c.args.self.now) c.args.old.number c.in-Some.viewer.number e → ⊥)
      → (j e : ℕ) → Lacking (model c.args.self.now) c.args.old.number j e → c.in-Some.viewer.number < j
  after none j e w = elim (cases_eq j c.in-Some.viewer.number) [
    | inl q ↦ absurd (none e (subst (λ m. Lacking (model c.args.self.now) c.args.old.number m e) q w))
    | inr d ↦ let far = beyond j e w in omega arith
  ]

  less : c.args.self.now.last - c.in-Some.viewer.number < c.args.self.now.last - c.loop-start.last
  less =
      let up = later c.args.self.now (λ j. not j.finished) (λ j. not j.finished) (λ j. refl) c.active-active.result c.active-active.ensures c.loop-start.last
      c.in-Some.start.index c.in-Some.viewer start c.in-Some.ensures.least in
      let given = next_given c.args.self.now (λ j. not j.finished) (λ j. not j.finished) (λ j. refl) c.active-active.result c.active-active.ensures c.loop-start.last
      c.in-Some.start.index c.in-Some.viewer start c.in-Some.ensures.least in
      omega arith

pub loop-start-init : goal.loop-start-init
loop-start-init c j e w = active_from_one c.args.self.now j w.0

pub loop-start-smaller-then-not-contains : goal.loop-start-smaller-then-not-contains
loop-start-smaller-then-not-contains c = less (goal.at.loop-start-smaller-then-not-contains c).After-remove

pub loop-start-preserved-then-not-contains : goal.loop-start-preserved-then-not-contains
loop-start-preserved-then-not-contains c =
    let k = (goal.at.loop-start-preserved-then-not-contains c).After-remove in
    after k (λ e w. not_reached _ _ _ _ _ _ _ (viewed k) (sym c.contains.ensures ∙ c.if-not-contains.true) e w.2)

pub settings-init : goal.settings-init
settings-init c =
    let k = (goal.at.settings-init c).After-remove in
    let all = c.into_iter-setting-iterator.ensures.into_iter_gives in (
      λ e t. subst T (c.touched-setting-items.ensures e) (subst (λ s. T (has s e)) all t),
      λ e w. subst (λ s. T (has s e)) (sym all) (subst T (sym (c.touched-setting-items.ensures e)) (touched_there _ _ _ _ _ _ _ (viewed k) e w.2)),
    )

pub loop-start-smaller : goal.loop-start-smaller
loop-start-smaller c = less (goal.at.loop-start-smaller c).After-remove

pub loop-start-preserved : goal.loop-start-preserved
loop-start-preserved c =
    after (goal.at.loop-start-preserved c).After-remove (λ e w. subst T (listed_over _ c.in-None.ensures.steps.0 e) (c.settings.invariant.1 e w))

pub settings-preserved : goal.settings-preserved
settings-preserved c =
    let b = goal.at.settings-preserved c in
    let d : ℕ = c.in-Some-setting.setting.index in
    let first = listed_head _ _ _ c.in-Some-setting.ensures.steps in
    let k : ℕ = c.in-Some-other.other.index in
    let member = c.loop-other.invariant.0 k (listed_head _ _ _ c.in-Some-other.ensures.steps).member in
    let strong : T (passes (as_strong c.args.old d) (slot c.args.self.now.table k)) = subst T c.if-is_as_strong.ensures tt in (
      λ e t. c.settings.invariant.0 e (and_l (has c.settings.setting-iterator.left.left e) (not (eqb e d)) (subst T (first.others e) t)),
      λ e w. subst T (sym (first.others e)) (and_i (has c.settings.setting-iterator.left.left e) (not (eqb e d)) (c.settings.invariant.1 e w)
          (apart e d (λ q. stood_in _ _ _ _ _ _ _ (viewed b.After-remove) d k member strong (subst (λ m. Lacking (model c.args.self.now) c.args.old.number c.in-Some.viewer.number m) q w).2))),
    )

pub loop-other-preserved : goal.loop-other-preserved
loop-other-preserved c =
    let first = listed_head _ _ _ c.in-Some-other.ensures.steps in
    let n : ℕ = c.in-Some-other.other.index in
    let d : ℕ = c.in-Some-setting.setting.index in (
      λ k t. c.loop-other.invariant.0 k (and_l (has c.loop-other.other-iterator.left k) (not (eqb k n)) (subst T (first.others k) t)),
      λ k m t. subst T (sym (first.others k)) (and_i (has c.loop-other.other-iterator.left k) (not (eqb k n)) (c.loop-other.invariant.1 k m t)
          (apart k n (λ q. subst T (sym c.if-is_as_strong.ensures) (subst (λ i. T (passes (as_strong c.args.old d) (slot c.args.self.now.table i))) q t)))),
    )

pub returns-in-settings : goal.returns-in-settings
returns-in-settings c =
    let b = (goal.at.returns-in-settings c).After-remove in
    let d : ℕ = c.in-Some-setting.setting.index in
    let first = listed_head _ _ _ c.in-Some-setting.ensures.steps in
    let on : T (touched d c.args.old) = c.settings.invariant.0 d first.member in
    let active = next_listed c.args.self.now (λ j. not j.finished) (λ j. not j.finished) (λ j. refl) c.active-active.result c.active-active.ensures c.loop-start.last
    c.in-Some.start.index c.in-Some.viewer (start b) c.in-Some.ensures.least in
    simp c.index.ensures (
      (
        active,
        touched_below _ _ _ _ _ _ _ (viewed b) d on,
        is_lacking _ _ _ _ _ _ _ (viewed b) d (sym c.contains.ensures ∙ c.if-not-contains.false) on
            (λ k m t. subst T (listed_over _ c.in-None-other.ensures.steps.0 k) (c.loop-other.invariant.1 k m t)),
      ),
      λ j e w small. elim small [
        | inl l ↦ let far = beyond b j e w in omega arith
        | inr q ↦
            let left = c.settings.invariant.1 e (subst (λ m. Lacking (model c.args.self.now) c.args.old.number m e) q.0 w) in
            subst T (first.least e q.1) left
      ],
    )

pub returns : goal.returns
returns c j e w = none_later c.args.self.now (λ j. not j.finished) (λ j. not j.finished) (λ j. refl) c.active-active.result c.active-active.ensures c.loop-start.last c.in_default.ensures j w.0 (c.loop-start.invariant j e w)
