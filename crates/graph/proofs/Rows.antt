-- The loop that builds a row of a graph from its arrows.
use Rattle.std.proofs.Common.{◌≡◌, ℕ, ◌+◌, Bool, true, false, ◌&&◌, ◌||◌, eqb, ltb, sym, refl, ap, ◌∙◌, ap₂, inl, inr, arith}
use Rattle.std.proofs.lemmas.Bool.{cases_order, lt-ltb, le-ltb, eq-eqb, ne_eqb, eqb-true}

-- the places below `upto` are those that pass the test `a`
abbrev pub RowTo : (ℕ → Bool) → ℕ → (ℕ → Bool) → Type 0
RowTo a upto row = (k : ℕ) → row k ≡ (ltb k upto && a k)

-- below the next number is below this one or this one
next : (k n : ℕ) → ltb k (n + 1) ≡ (ltb k n || eqb k n)
next k n = elim (cases_order k n) [
  | inl e ↦ lt-ltb k (n + 1) (omega arith) ∙ sym (ap₂ (λ a b. a || b) (le-ltb k n (omega arith)) (eq-eqb k n e))
  | inr (inl l) ↦ lt-ltb k (n + 1) (omega arith) ∙ sym (ap (λ a. a || eqb k n) (lt-ltb k n l))
  | inr (inr g) ↦ le-ltb k (n + 1) (omega arith) ∙ sym (ap₂ (λ a b. a || b) (le-ltb k n (omega arith)) (ne_eqb k n (omega arith)))
]

with_this : (l a e : Bool) → (e ≡ true → a ≡ true) → ((l && a) || e) ≡ ((l || e) && a)
with_this true true e h = refl
with_this true false true h = sym (h refl)
with_this true false false h = refl
with_this false a true h = sym (h refl)
with_this false a false h = refl

without_this : (l a e : Bool) → (e ≡ true → a ≡ false) → (l && a) ≡ ((l || e) && a)
without_this true a e h = refl
without_this false a true h = sym (h refl)
without_this false a false h = refl

module _ (a : ℕ → Bool) (upto : ℕ) (row : ℕ → Bool) where
  -- the next place, j, passes and is added
  pub row_hit : (row' : ℕ → Bool) (j : ℕ) → j ≡ upto → true ≡ a j → ((k : ℕ) → row' k ≡ (row k || eqb k j)) → RowTo a upto row → RowTo a (upto + 1) row'
  row_hit row' j q t e i k =
      e k ∙ ap₂ (λ b n. b || eqb k n) (i k) q ∙ with_this (ltb k upto) (a k) (eqb k upto) (λ z. ap a (eqb-true k upto z ∙ sym q) ∙ sym t)
      ∙ sym (ap (λ b. b && a k) (next k upto))

  -- the next place, j, does not pass
  pub row_pass : (j : ℕ) → j ≡ upto → false ≡ a j → RowTo a upto row → RowTo a (upto + 1) row
  row_pass j q t i k =
      i k ∙ without_this (ltb k upto) (a k) (eqb k upto) (λ z. ap a (eqb-true k upto z ∙ sym q) ∙ sym t) ∙ sym (ap (λ b. b && a k) (next k upto))
