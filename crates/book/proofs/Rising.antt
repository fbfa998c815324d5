-- The first of rising numbers that passes a test: for loops that go from one number to the next.
use Rattle.std.proofs.Common.{◌≡◌, ℕ, zero, suc, ◌<◌, ◌≤◌, Bool, true, false, T, eqb, ltb, List, Some, None, Option, sym, refl, ap, subst, inl, inr, arith, eqb→eq, ltb→lt, lt→ltb}
use Rattle.std.proofs.lemmas.Bool.{cases_lt}
use Rattle.model.specs.Lists.{among, first_of, up_to}
use Rattle.model.specs.Book as Model
use Rattle.model.proofs.Tests.{some_cases}
use Rattle.model.proofs.Lists.{In, among_in, in_among, filter_e}
use Rattle.model.proofs.First.{First, first_says, Ascending, Least, first_least, ascending_filter, ascending_up_to, up_to_le}

pub up_to_from_one : (l n : ℕ) → T (among n (up_to l)) → 1 ≤ n
up_to_from_one zero n t = absurd t
up_to_from_one (suc l) n t = elim (some_cases (eqb n) (up_to l) (suc l) t) [
  | inl i ↦ up_to_from_one l n i
  | inr e ↦ let q = eqb→eq n (suc l) e in omega arith
]

-- the numbers of a book's jobs rise
pub rising : (g : Model.Job → Bool) (b : Model.Book) → Ascending ◌<◌ (Model.jobs_that g b)
rising g b = ascending_filter ◌<◌ (λ n. Model.holds g (b.job n)) (up_to b.last) (ascending_up_to b.last)

module _ (f : ℕ → Bool) (ns : List ℕ) where
  -- none passes
  pub first_none : ((m : ℕ) → T (among m ns) → T (f m) → ⊥) → first_of f ns ≡ None
  first_none none = go (first_of f ns) (first_says f ns)
    where
      go : (o : Option ℕ) → First f ns o → o ≡ None
      go None h = refl
      go (Some m) h = absurd (none m (in_among h.0) h.1)

  -- one passes, and none before it
  pub first_some : Ascending ◌<◌ ns → (n : ℕ) → T (among n ns) → T (f n) → ((m : ℕ) → T (among m ns) → m < n → T (f m) → ⊥) → first_of f ns ≡ Some n
  first_some up n i t none = go (first_of f ns) (first_says f ns) (first_least ◌<◌ f ns up)
    where
      go : (o : Option ℕ) → First f ns o → Least ◌<◌ f ns o → o ≡ Some n
      go None h l = absurd (h n (among_in n ns i) t)
      go (Some m) h l = elim (l n (among_in n ns i) t) [
        | inl e ↦ ap Some e
        | inr s ↦ absurd (none m (in_among h.0) s h.1)
      ]

-- a walk through the jobs of a book that asks for the next number, looking for the first that passes a test
module _ (g : Model.Job → Bool) (b : Model.Book) (f : ℕ → Bool) where
  abbrev ns : List ℕ
  ns = Model.jobs_that g b

  -- no number up to here passes
  abbrev pub Passed : ℕ → Type 0
  Passed after = (m : ℕ) → T (among m ns) → m ≤ after → T (f m) → ⊥

  in_range : (m : ℕ) → T (among m ns) → (1 ≤ m) × (m ≤ b.last)
  in_range m i = let j = (filter_e (λ n. Model.holds g (b.job n)) (up_to b.last) m i).0 in (up_to_from_one b.last m j, up_to_le b.last m (among_in m (up_to b.last) j))

  pub passed_none : Passed 0
  passed_none m i l t = let r = (in_range m i).0 in omega arith

  module _ (after : ℕ) (before : Passed after) where
    pub passed_all : None ≡ first_of (ltb after) ns → None ≡ first_of f ns
    passed_all e = sym (first_none f ns (λ m i t. elim (cases_lt after m) [
      | inl l ↦ subst (First (ltb after) ns) (sym e) (first_says (ltb after) ns) m (among_in m ns i) (lt→ltb after m l)
      | inr l ↦ before m i l t
    ]))

    module _ (n : ℕ) (e : Some n ≡ first_of (ltb after) ns) where
      here : In n ns × T (ltb after n)
      here = subst (First (ltb after) ns) (sym e) (first_says (ltb after) ns)

      -- the next number is greater, and has been given
      pub next_above : (after < n) × (n ≤ b.last)
      next_above = (ltb→lt after n here.1, (in_range n (in_among here.0)).1)

      between : (m : ℕ) → T (among m ns) → m < n → T (f m) → ⊥
      between m i s t = elim (cases_lt after m) [
        | inl h ↦ elim (subst (Least ◌<◌ (ltb after) ns) (sym e) (first_least ◌<◌ (ltb after) ns (rising g b)) m (among_in m ns i) (lt→ltb after m h)) [ inl q ↦ omega arith | inr q ↦ omega arith ]
        | inr h ↦ before m i h t
      ]

      pub passed_more : f n ≡ false → Passed n
      passed_more off m i l t = elim (cases_lt m n) [
        | inl s ↦ between m i s t
        | inr s ↦ let same : m ≡ n = omega arith in subst T off (subst (λ k. T (f k)) same t)
      ]

      pub passed_found : f n ≡ true → Some n ≡ first_of f ns
      passed_found on = sym (first_some f ns (rising g b) n (in_among here.0) (subst T (sym on) tt) between)
