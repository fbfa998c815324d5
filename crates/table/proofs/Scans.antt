-- What a scan of all places finds.
use Rattle.std.proofs.Common.{◌≡◌, ℕ, zero, suc, ◌+◌, ◌<◌, ◌≤◌, Bool, true, false, ◌||◌, eqb, List, length, replicate, None, Option, sym, refl, ap, ◌∙◌, subst, inl, inr, arith}
use mathlib.Core.Bool.{or-false}
use Rattle.std.proofs.lemmas.List.{get_or_past}
use Rattle.std.proofs.lemmas.Bool.{cases_lt, cases_eq, eq-eqb, ne_eqb, or_right}
use Rattle.graph.specs.declared.place_set.PlaceSet.{PlaceSet}
use Rattle.graph.specs.Members.{has}
use Rattle.graph.proofs.Membership.{has_past}
use Rattle.table.specs.declared.jobs.Job.{Job}
use Rattle.table.specs.Slots.{slot_of, passes}

-- every place of a new table is empty
pub slot_none : (n i : ℕ) → slot_of (replicate n None) i ≡ None
slot_none zero i = refl
slot_none (suc n) zero = refl
slot_none (suc n) (suc i) = slot_none n i

-- no job is past the last place
pub slot_past : (jobs : List (Option Job)) (i : ℕ) → length jobs ≡ 64 → 64 ≤ i → slot_of jobs i ≡ None
slot_past jobs i long h = get_or_past jobs i None (omega arith)

-- what is answered of each place is answered of every number, since past the last place there is no job
pub scanned : (f : Job → Bool) (jobs : List (Option Job)) (s : PlaceSet) → length jobs ≡ 64 → ((i : ℕ) → i < 64 → has s i ≡ passes f (slot_of jobs i))
    → (i : ℕ) → has s i ≡ passes f (slot_of jobs i)
scanned f jobs s long h i = elim (cases_lt i 64) [
  | inl l ↦ h i l
  | inr g ↦ has_past s i g ∙ sym (ap (passes f) (slot_past jobs i long g))
]

-- below n the set has the places of which the question was answered by yes, and above none
pub record Asked (R : ℕ → Bool → Type 0) (n : ℕ) (s : ℕ → Bool) : Type 0 where
  pub told : (i : ℕ) → i < n → R i (s i)
  pub rest : (i : ℕ) → n ≤ i → s i ≡ false

module _ (R : ℕ → Bool → Type 0) (n : ℕ) (s : ℕ → Bool) (a : Asked R n s) where
  pub asked_yes : (s' : ℕ → Bool) (j : ℕ) (b : Bool) → j ≡ n → R n b → b ≡ true → ((k : ℕ) → s' k ≡ (s k || eqb k j)) → Asked R (n + 1) s'
  asked_yes s' j b q r y e = record {
    told = λ i h. elim (cases_eq i n) [
      | inl p ↦ subst (R i) (sym (e i ∙ or_right (s i) (eqb i j) (eq-eqb i j (omega arith)))) (subst (λ m. R m true) (sym p) (subst (R n) y r))
      | inr d ↦ subst (R i) (sym (off i (λ p. d (p ∙ q)))) (a.told i (omega arith))
    ];
    rest = λ i h. off i (λ p. omega arith) ∙ a.rest i (omega arith);
  }
    where
      off : (i : ℕ) → (i ≡ j → ⊥) → s' i ≡ s i
      off i d = e i ∙ ap (λ b. s i || b) (ne_eqb i j d) ∙ or-false (s i)

  pub asked_no : (b : Bool) → R n b → b ≡ false → Asked R (n + 1) s
  asked_no b r y = record {
    told = λ i h. elim (cases_eq i n) [
      | inl p ↦ subst (R i) (sym (a.rest i (omega arith))) (subst (λ m. R m false) (sym p) (subst (R n) y r))
      | inr d ↦ a.told i (omega arith)
    ];
    rest = λ i h. a.rest i (omega arith);
  }
