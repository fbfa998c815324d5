-- What a set has after each operation on its mask.
use Rattle.std.proofs.Common.{◌≡◌, ℕ, ◌-◌, ◌*◌, ◌/◌, ◌%◌, ◌^◌, ◌<◌, ◌≤◌, Bool, true, false, not, ◌&&◌, ◌||◌, T, eqb, ltb, sym, refl, ap, ◌∙◌, subst, inl, inr, arith, eqb→eq, ltb→lt, lt→ltb}
use lib.Bits.{bit_and, bit_or, and_mask, and_le_l}
use lib.Count.{count_trailing_zeros, trailing_of_zero}
use Rattle.std.proofs.lemmas.Nat.{one_shl}
use Rattle.std.proofs.lemmas.Bool.{cases_lt, cases_Bool, lt-ltb, le-ltb, eqb-true, and_left, and_right}
use Rattle.graph.specs.declared.place.Place.{Place}
use Rattle.graph.specs.declared.place_set.PlaceSet.{PlaceSet}
use Rattle.graph.specs.Members.{holds, has, Shared, First, Empty}
use Rattle.graph.proofs.Bools.{and_fst, and_snd, and_both}
use Rattle.graph.proofs.Digits.{holds_zero, holds_or, holds_and, holds_not, holds_power, holds_shr, holds_rest, lowest_held, lowest_below, lowest_first}

-- every place of a set is below 64
pub has_small : (s : PlaceSet) (k : ℕ) → T (has s k) → k < 64
unfolding has
has_small s k h = ltb→lt k 64 (and_fst (ltb k 64) (holds s.mask k) h)

-- below 64 the digits of the mask are the places
pub has_below : (s : PlaceSet) (k : ℕ) → k < 64 → has s k ≡ holds s.mask k
unfolding has
has_below s k h = ap (λ b. b && holds s.mask k) (lt-ltb k 64 h)

pub has_past : (s : PlaceSet) (k : ℕ) → 64 ≤ k → has s k ≡ false
unfolding has
has_past s k h = ap (λ b. b && holds s.mask k) (le-ltb k 64 h)

pub has_none : Empty (record { mask = 0 })
unfolding has
has_none k = and_right (ltb k 64) (holds 0 k) (holds_zero k)

pub has_zero : (s : PlaceSet) → s.mask ≡ 0 → Empty s
has_zero s e k = ap (λ n. has (record { mask = n }) k) e ∙ has_none k

-- `1 << place`
pub has_only : (p : Place) (k : ℕ) → has (record { mask = (1 * 2 ^ p.index) % 2 ^ 64 }) k ≡ eqb k p.index
unfolding has
has_only p k =
    ap (λ b. ltb k 64 && b) (ap (λ n. holds n k) (one_shl p.index 64 p.small) ∙ holds_power p.index k)
    ∙ go (eqb k p.index) (λ e. let q = eqb→eq k p.index e in lt-ltb k 64 (omega (arith, p.small)))
  where
    go : (e : Bool) → (T e → ltb k 64 ≡ true) → (ltb k 64 && e) ≡ e
    go true f = ap (λ b. b && true) (f tt)
    go false f = and_right (ltb k 64) false refl

-- `mask >> place & 1 == 1`
pub has_bit : (s : PlaceSet) (p : Place) → eqb (bit_and (s.mask / 2 ^ p.index) 1) 1 ≡ has s p.index
has_bit s p = ap (λ n. eqb n 1) (and_mask (s.mask / 2 ^ p.index) 1) ∙ sym (holds_shr s.mask p.index) ∙ sym (has_below s p.index p.small)

-- `|`
pub has_or : (s t : PlaceSet) (k : ℕ) → has (record { mask = bit_or s.mask t.mask }) k ≡ (has s k || has t k)
unfolding has
has_or s t k = ap (λ b. ltb k 64 && b) (holds_or s.mask t.mask k) ∙ go (ltb k 64) (holds s.mask k) (holds t.mask k)
  where
    go : (l a b : Bool) → (l && (a || b)) ≡ ((l && a) || (l && b))
    go true a b = refl
    go false a b = refl

-- `&`
pub has_and : (s t : PlaceSet) (k : ℕ) → has (record { mask = bit_and s.mask t.mask }) k ≡ (has s k && has t k)
unfolding has
has_and s t k = ap (λ b. ltb k 64 && b) (holds_and s.mask t.mask k) ∙ go (ltb k 64) (holds s.mask k) (holds t.mask k)
  where
    go : (l a b : Bool) → (l && (a && b)) ≡ ((l && a) && (l && b))
    go true a b = refl
    go false a b = refl

-- `a & !b`
pub has_minus : (s t : PlaceSet) (k : ℕ) → t.mask < 2 ^ 64
    → has (record { mask = bit_and s.mask ((2 ^ 64 - 1) - t.mask) }) k ≡ (has s k && not (has t k))
has_minus s t k f =
    has_and s (record { mask = (2 ^ 64 - 1) - t.mask }) k
    ∙ elim (cases_lt k 64) [
      | inl l ↦
          ap (λ b. has s k && b)
          (has_below (record { mask = (2 ^ 64 - 1) - t.mask }) k l ∙ holds_not 64 t.mask k f l ∙ ap not (sym (has_below t k l)))
      | inr g ↦ and_left (has s k) _ (has_past s k g) ∙ sym (and_left (has s k) _ (has_past s k g))
    ]

-- `a & b != 0`
pub shared : (s t : PlaceSet) → s.mask < 2 ^ 64 → Shared s t (not (eqb (bit_and s.mask t.mask) 0))
shared s t f = let both : ℕ = bit_and s.mask t.mask in record {
  some = λ h.
      let pos : 0 < both = go both h in
      let fits : both < 2 ^ 64 = omega (arith, and_le_l s.mask t.mask) in
      let k : ℕ = count_trailing_zeros 64 both in
      let l : k < 64 = lowest_below 64 both pos fits in
      let held : T (has s k && has t k) = subst (λ b. T b) (sym (has_below (record { mask = both }) k l) ∙ has_and s t k) (lowest_held 64 both pos fits) in
      (k, and_fst (has s k) (has t k) held, and_snd (has s k) (has t k) held);
  told = λ k a b. tell both (λ z.
      subst (λ b. T b)
      (sym (has_and s t k) ∙ ap (λ n. has (record { mask = n }) k) z ∙ has_none k)
      (and_both (has s k) (has t k) a b));
}
  where
    go : (n : ℕ) → T (not (eqb n 0)) → 0 < n
    go n h = elim (cases_lt 0 n) [ inl l ↦ l | inr g ↦ let z : n ≡ 0 = omega arith in absurd (subst (λ m. T (not (eqb m 0))) z h) ]

    tell : (n : ℕ) → (n ≡ 0 → ⊥) → T (not (eqb n 0))
    tell n h = elim (cases_Bool (eqb n 0)) [ inl e ↦ absurd (h (eqb-true n 0 e)) | inr e ↦ subst (λ b. T (not b)) (sym e) tt ]

-- a mask with no digit at the end has none at all
pub no_first : (m : ℕ) → m < 2 ^ 64 → 64 ≤ count_trailing_zeros 64 m → m ≡ 0
no_first m f h = elim (cases_lt 0 m) [
  | inl l ↦ absurd (let b = lowest_below 64 m l f in let z : ⊥ = omega arith in z)
  | inr g ↦ omega arith
]

pub some_first : (m : ℕ) → count_trailing_zeros 64 m < 64 → 0 < m
some_first m h = elim (cases_lt 0 m) [
  | inl l ↦ l
  | inr g ↦
      let e : m ≡ 0 = omega arith in
      let z = ap (count_trailing_zeros 64) e ∙ trailing_of_zero 64 in
      absurd (let y : ⊥ = omega arith in y)
]

-- `mask & (mask - 1)` is without the first place
pub first : (m n : ℕ) → m < 2 ^ 64 → n ≡ count_trailing_zeros 64 m → n < 64 → First (record { mask = m }) (record { mask = bit_and m (m - 1) }) n
unfolding has
first m n f e l = subst (λ j. First (record { mask = m }) (record { mask = bit_and m (m - 1) }) j) (sym e) (go (omega arith))
  where
    join : (l a b : Bool) → (l && (a && b)) ≡ ((l && a) && b)
    join true a b = refl
    join false a b = refl

    go : count_trailing_zeros 64 m < 64 → First (record { mask = m }) (record { mask = bit_and m (m - 1) }) (count_trailing_zeros 64 m)
    go h = let pos = some_first m h in record {
      member = and_both (ltb (count_trailing_zeros 64 m) 64) (holds m (count_trailing_zeros 64 m)) (lt→ltb (count_trailing_zeros 64 m) 64 h) (lowest_held 64 m pos f);
      least = λ k l. and_right (ltb k 64) (holds m k) (lowest_first 64 m k pos f l);
      others = λ k. ap (λ b. ltb k 64 && b) (holds_rest 64 m k pos f) ∙ join (ltb k 64) (holds m k) (not (eqb k (count_trailing_zeros 64 m)));
    }
