-- The digits of a mask under `|`, `&`, `!`, `x & (x - 1)` and `trailing_zeros`.
use Rattle.std.proofs.Common.{◌≡◌, ℕ, zero, suc, ◌-◌, ◌/◌, ◌%◌, ◌^◌, ◌<◌, Bool, true, false, not, ◌&&◌, ◌||◌, T, eqb, sym, refl, ap, ◌∙◌, subst, pow-suc, one-add, arith}
use lib.Bits.{bit_and, bit_or, or_shr, or_mod, and_shr, and_mod}
use lib.Count.{count_trailing_zeros, under}
use lib.Dec.{eqb-zero-suc, eqb-suc-zero, eqb-suc-suc}
use Rattle.std.proofs.lemmas.Nat.{shr-shr}
use Rattle.graph.specs.Members.{holds}

-- ---- one digit

low : (m : ℕ) → m % 2 < 2
low m = omega arith

or_low : (x y : ℕ) → x < 2 → y < 2 → eqb (bit_or x y) 1 ≡ (eqb x 1 || eqb y 1)
or_low zero zero h k = refl
or_low zero (suc zero) h k = refl
or_low zero (suc (suc y)) h k = absurd (let z : ⊥ = omega arith in z)
or_low (suc zero) zero h k = refl
or_low (suc zero) (suc zero) h k = refl
or_low (suc zero) (suc (suc y)) h k = absurd (let z : ⊥ = omega arith in z)
or_low (suc (suc x)) y h k = absurd (let z : ⊥ = omega arith in z)

and_low : (x y : ℕ) → x < 2 → y < 2 → eqb (bit_and x y) 1 ≡ (eqb x 1 && eqb y 1)
and_low zero zero h k = refl
and_low zero (suc zero) h k = refl
and_low zero (suc (suc y)) h k = absurd (let z : ⊥ = omega arith in z)
and_low (suc zero) zero h k = refl
and_low (suc zero) (suc zero) h k = refl
and_low (suc zero) (suc (suc y)) h k = absurd (let z : ⊥ = omega arith in z)
and_low (suc (suc x)) y h k = absurd (let z : ⊥ = omega arith in z)

not_low : (x : ℕ) → x < 2 → eqb (1 - x) 1 ≡ not (eqb x 1)
not_low zero h = refl
not_low (suc zero) h = refl
not_low (suc (suc x)) h = absurd (let z : ⊥ = omega arith in z)

-- ---- all digits

pub holds_or : (a b k : ℕ) → holds (bit_or a b) k ≡ (holds a k || holds b k)
holds_or a b zero = ap (λ n. eqb n 1) (or_mod a b 1) ∙ or_low (a % 2) (b % 2) (low a) (low b)
holds_or a b (suc k) = ap (λ n. holds n k) (or_shr a b 1) ∙ holds_or (a / 2) (b / 2) k

pub holds_and : (a b k : ℕ) → holds (bit_and a b) k ≡ (holds a k && holds b k)
holds_and a b zero = ap (λ n. eqb n 1) (and_mod a b 1) ∙ and_low (a % 2) (b % 2) (low a) (low b)
holds_and a b (suc k) = ap (λ n. holds n k) (and_shr a b 1) ∙ holds_and (a / 2) (b / 2) k

pub holds_zero : (k : ℕ) → holds 0 k ≡ false
holds_zero zero = refl
holds_zero (suc k) = holds_zero k

-- `1 << j`
pub holds_power : (j k : ℕ) → holds (2 ^ j) k ≡ eqb k j
holds_power zero zero = refl
holds_power zero (suc k) = holds_zero k ∙ sym (eqb-suc-zero k)
holds_power (suc j) zero =
    let e = pow-suc 2 j in
    let d : 2 ^ suc j % 2 ≡ 0 = omega arith in
    ap (λ n. eqb n 1) d ∙ sym (eqb-zero-suc j)
holds_power (suc j) (suc k) =
    let e = pow-suc 2 j in
    let d : 2 ^ suc j / 2 ≡ 2 ^ j = omega arith in
    ap (λ n. holds n k) d ∙ holds_power j k ∙ sym (eqb-suc-suc k j)

-- the digit as the code reads it
pub holds_shr : (m k : ℕ) → holds m k ≡ eqb ((m / 2 ^ k) % 2) 1
holds_shr m zero = let d : m / 2 ^ 0 ≡ m = omega arith in ap (λ n. eqb (n % 2) 1) (sym d)
holds_shr m (suc k) = holds_shr (m / 2) k ∙ ap (λ n. eqb (n % 2) 1) (shr-shr m 1 k ∙ ap (λ n. m / 2 ^ n) (one-add k))

half : (w a : ℕ) → a < 2 ^ suc w → a / 2 < 2 ^ w
half w a h = let e = pow-suc 2 w in omega arith

-- `!a`
pub holds_not : (w a k : ℕ) → a < 2 ^ w → k < w → holds ((2 ^ w - 1) - a) k ≡ not (holds a k)
holds_not zero a k h l = absurd (let z : ⊥ = omega arith in z)
holds_not (suc w) a zero h l =
    let e = pow-suc 2 w in
    let d : ((2 ^ suc w - 1) - a) % 2 ≡ 1 - a % 2 = omega arith in
    ap (λ n. eqb n 1) d ∙ not_low (a % 2) (low a)
holds_not (suc w) a (suc k) h l =
    let e = pow-suc 2 w in
    let d : ((2 ^ suc w - 1) - a) / 2 ≡ (2 ^ w - 1) - a / 2 = omega arith in
    ap (λ n. holds n k) d ∙ holds_not w (a / 2) k (half w a h) (omega arith)

-- ---- the lowest digit

-- `trailing_zeros` of a mask that is not 0 is the place of a digit that it holds
pub lowest_held : (w a : ℕ) → 0 < a → a < 2 ^ w → T (holds a (count_trailing_zeros w a))
unfolding count_trailing_zeros
lowest_held zero a p h = absurd (let z : ⊥ = omega arith in z)
lowest_held (suc w) a p h = go (a % 2) refl (λ q. lowest_held w (a / 2) q (half w a h))
  where
    go : (r : ℕ) → a % 2 ≡ r → (0 < a / 2 → T (holds (a / 2) (count_trailing_zeros w (a / 2)))) → T (holds a (under r (count_trailing_zeros w (a / 2))))
    go zero e ih = ih (omega arith)
    go (suc zero) e ih = subst (λ n. T (eqb n 1)) (sym e) tt
    go (suc (suc r)) e ih = absurd (let z : ⊥ = omega arith in z)

pub lowest_below : (w a : ℕ) → 0 < a → a < 2 ^ w → count_trailing_zeros w a < w
unfolding count_trailing_zeros
lowest_below zero a p h = absurd (let z : ⊥ = omega arith in z)
lowest_below (suc w) a p h = go (a % 2) refl (λ q. lowest_below w (a / 2) q (half w a h))
  where
    go : (r : ℕ) → a % 2 ≡ r → (0 < a / 2 → count_trailing_zeros w (a / 2) < w) → under r (count_trailing_zeros w (a / 2)) < suc w
    go zero e ih = let q : 0 < a / 2 = omega arith in let i = ih q in omega arith
    go (suc r) e ih = omega arith

-- it holds none below
pub lowest_first : (w a k : ℕ) → 0 < a → a < 2 ^ w → k < count_trailing_zeros w a → holds a k ≡ false
unfolding count_trailing_zeros
lowest_first zero a k p h l = absurd (let z : ⊥ = omega arith in z)
lowest_first (suc w) a k p h l = go k (a % 2) refl (λ j q m. lowest_first w (a / 2) j q (half w a h) m) l
  where
    go : (k r : ℕ) → a % 2 ≡ r → ((j : ℕ) → 0 < a / 2 → j < count_trailing_zeros w (a / 2) → holds (a / 2) j ≡ false) → k < under r (count_trailing_zeros w (a / 2))
        → holds a k ≡ false
    go zero zero e ih l = ap (λ n. eqb n 1) e
    go (suc k) zero e ih l = ih k (omega arith) (omega arith)
    go k (suc r) e ih l = absurd (let z : ⊥ = omega arith in z)

and_twice : (b : Bool) → (b && b) ≡ (b && true)
and_twice true = refl
and_twice false = refl

-- `a & (a - 1)` lacks the lowest digit of a, and no other
pub holds_rest : (w a k : ℕ) → 0 < a → a < 2 ^ w → holds (bit_and a (a - 1)) k ≡ (holds a k && not (eqb k (count_trailing_zeros w a)))
unfolding count_trailing_zeros
holds_rest zero a k p h = absurd (let z : ⊥ = omega arith in z)
holds_rest (suc w) a k p h = go k (a % 2) refl (λ q j. holds_rest w (a / 2) j q (half w a h))
  where
    go : (k r : ℕ) → a % 2 ≡ r → (0 < a / 2 → (j : ℕ) → holds (bit_and (a / 2) (a / 2 - 1)) j ≡ (holds (a / 2) j && not (eqb j (count_trailing_zeros w (a / 2)))))
        → holds (bit_and a (a - 1)) k ≡ (holds a k && not (eqb k (under r (count_trailing_zeros w (a / 2)))))
    go zero zero e ih =
        let f : eqb (a % 2) 1 ≡ false = ap (λ n. eqb n 1) e in
        holds_and a (a - 1) zero ∙ ap (λ b. b && eqb ((a - 1) % 2) 1) f ∙ sym (ap (λ b. b && not (eqb 0 (suc (count_trailing_zeros w (a / 2))))) f)
    go (suc k) zero e ih =
        let q : 0 < a / 2 = omega arith in
        let d : (a - 1) / 2 ≡ a / 2 - 1 = omega arith in
        ap (λ n. holds n k) (and_shr a (a - 1) 1 ∙ ap (λ n. bit_and (a / 2) n) d) ∙ ih q k
        ∙ ap (λ b. holds (a / 2) k && not b) (sym (eqb-suc-suc k (count_trailing_zeros w (a / 2))))
    go zero (suc zero) e ih =
        let d : (a - 1) % 2 ≡ 0 = omega arith in
        holds_and a (a - 1) zero ∙ ap (λ n. eqb (a % 2) 1 && eqb n 1) d
    go (suc k) (suc zero) e ih =
        let d : (a - 1) / 2 ≡ a / 2 = omega arith in
        holds_and a (a - 1) (suc k) ∙ ap (λ n. holds (a / 2) k && holds n k) d ∙ and_twice (holds (a / 2) k)
        ∙ ap (λ b. holds (a / 2) k && not b) (sym (eqb-suc-zero k))
    go k (suc (suc r)) e ih = absurd (let z : ⊥ = omega arith in z)
