-- Counts of the numbers below a bound that pass a test.
use Rattle.std.proofs.Common.{◌≡◌, ℕ, zero, suc, ◌+◌, ◌/◌, ◌%◌, ◌^◌, ◌<◌, ◌≤◌, Bool, true, false, cond, T, eqb, sym, refl, ap, ◌∙◌, subst, ap₂, inl, inr, pow-suc, arith}
use lib.Count.{ones, ones_step}
use Rattle.std.proofs.lemmas.Bool.{cases_eq}
use Rattle.graph.specs.Counted.{count}
use Rattle.graph.specs.Members.{holds}

one_le : (a b : Bool) → (T a → T b) → ◌≤◌ (cond a 1 0) (cond b 1 0)
one_le true true h = omega arith
one_le true false h = absurd (h tt)
one_le false b h = omega arith

one_less : (a b : Bool) → (T a → ⊥) → T b → ◌<◌ (cond a 1 0) (cond b 1 0)
one_less true b h k = absurd (h tt)
one_less false true h k = omega arith
one_less false false h k = absurd k

module _ (f g : ℕ → Bool) (all : (k : ℕ) → T (f k) → T (g k)) where
  count_le : (n : ℕ) → count f n ≤ count g n
  unfolding count
  count_le zero = omega arith
  count_le (suc n) = omega (arith, one_le (f n) (g n) (all n), count_le n)

  -- a test that fewer numbers pass, and one that t passes no more, counts less
  pub count_less : (n t : ℕ) → t < n → (T (f t) → ⊥) → T (g t) → count f n < count g n
  unfolding count
  count_less zero t l h k = absurd (let z : ⊥ = omega arith in z)
  count_less (suc n) t l h k = elim (cases_eq t n) [
    | inl e ↦ omega (arith, one_less (f n) (g n) (λ b. h (subst (λ m. T (f m)) (sym e) b)) (subst (λ m. T (g m)) e k), count_le n)
    | inr d ↦ omega (arith, one_le (f n) (g n) (all n), count_less n t (omega arith) h k)
  ]

-- the first number on its own
count_first : (f : ℕ → Bool) (n : ℕ) → count f (suc n) ≡ cond (f 0) 1 0 + count (λ k. f (suc k)) n
unfolding count
count_first f zero = refl
count_first f (suc n) = let e = count_first f n in omega arith

at_most_one : (b : Bool) → ◌≤◌ (cond b 1 0) 1
at_most_one true = omega arith
at_most_one false = omega arith

pub count_bound : (f : ℕ → Bool) (n : ℕ) → count f n ≤ n
unfolding count
count_bound f zero = omega arith
count_bound f (suc n) = omega (arith, at_most_one (f n), count_bound f n)

-- equal tests count alike
pub count_same : (f g : ℕ → Bool) (n : ℕ) → ((k : ℕ) → k < n → f k ≡ g k) → count f n ≡ count g n
unfolding count
count_same f g zero e = refl
count_same f g (suc n) e = ap₂ (λ b m. cond b 1 0 + m) (e n (omega arith)) (count_same f g n (λ k l. e k (omega arith)))

low_digit : (d : ℕ) → d < 2 → d ≡ cond (eqb d 1) 1 0
low_digit zero h = refl
low_digit (suc zero) h = refl
low_digit (suc (suc d)) h = absurd (let z : ⊥ = omega arith in z)

ones_zero : ones 0 ≡ 0
unfolding ones
ones_zero = refl

-- the digits of a mask that stand
pub count_digits : (w m : ℕ) → m < 2 ^ w → ones m ≡ count (holds m) w
unfolding count
count_digits zero m h = let z : m ≡ 0 = omega arith in ap ones z ∙ ones_zero
count_digits (suc w) m h =
    let e = pow-suc 2 w in
    ones_step m ∙ ap₂ (λ a b. a + b) (low_digit (m % 2) (omega arith)) (count_digits w (m / 2) (omega arith)) ∙ sym (count_first (holds m) w)
