-- The arrows of a matrix: none at first, and one more after each that is drawn.
use Rattle.std.proofs.Common.{◌≡◌, ℕ, zero, suc, ◌<◌, ◌≤◌, false, ◌&&◌, ◌||◌, T, eqb, ◌≢◌, List, [], ◌∷◌, length, get_or, set, replicate, sym, refl, ap, ◌∙◌, arith}
use mathlib.Core.Bool.{or-false}
use lib.Dec.{eqb-zero-suc, eqb-suc-zero, eqb-suc-suc}
use Rattle.std.proofs.lemmas.List.{get_or_past, get_or-set_same, get_or-set_other}
use Rattle.std.proofs.lemmas.Bool.{eq-eqb}
use Rattle.graph.specs.declared.place_set.PlaceSet.{PlaceSet}
use Rattle.graph.specs.Members.{has, Empty}
use Rattle.graph.specs.Drawn.{drawn}
use Rattle.graph.proofs.Membership.{has_none, has_small}

pub drawn_row : (rows : List PlaceSet) (p q : ℕ) → has (get_or rows p (record { mask = 0 })) q ≡ drawn rows p q
drawn_row [] p q = has_none q
drawn_row (row ∷ rows) zero q = refl
drawn_row (row ∷ rows) (suc p) q = drawn_row rows p q

pub drawn_small : (rows : List PlaceSet) (p q : ℕ) → T (drawn rows p q) → q < 64
drawn_small [] p q h = absurd h
drawn_small (row ∷ rows) zero q h = has_small row q h
drawn_small (row ∷ rows) (suc p) q h = drawn_small rows p q h

-- past the last row there is no arrow
pub drawn_past : (rows : List PlaceSet) (p q : ℕ) → length rows ≤ p → drawn rows p q ≡ false
drawn_past rows p q h = sym (drawn_row rows p q) ∙ ap (λ s. has s q) (get_or_past rows p (record { mask = 0 }) h) ∙ has_none q

-- another set in the row of i
pub drawn_set_same : (rows : List PlaceSet) (i : ℕ) (s : PlaceSet) (q : ℕ) → i < length rows → drawn (set rows i s) i q ≡ has s q
drawn_set_same rows i s q h = sym (drawn_row (set rows i s) i q) ∙ ap (λ t. has t q) (get_or-set_same rows i s (record { mask = 0 }) h)

pub drawn_set_other : (rows : List PlaceSet) (i p : ℕ) (s : PlaceSet) (q : ℕ) → p ≢ i → drawn (set rows i s) p q ≡ drawn rows p q
drawn_set_other rows i p s q n =
    sym (drawn_row (set rows i s) p q) ∙ ap (λ t. has t q) (get_or-set_other rows i p s (record { mask = 0 }) n) ∙ drawn_row rows p q

pub drawn_none : (s : PlaceSet) → Empty s → (n p q : ℕ) → drawn (replicate n s) p q ≡ false
drawn_none s e zero p q = refl
drawn_none s e (suc n) zero q = e q
drawn_none s e (suc n) (suc p) q = drawn_none s e n p q

-- one more place in the row of i
pub drawn_more : (rows : List PlaceSet) (i j : ℕ) (s : PlaceSet) → i < length rows → ((k : ℕ) → has s k ≡ (has (get_or rows i (record { mask = 0 })) k || eqb k j))
    → (p q : ℕ) → drawn (set rows i s) p q ≡ (drawn rows p q || (eqb p i && eqb q j))
drawn_more [] i j s l e p q = absurd (let z : ⊥ = omega arith in z)
drawn_more (row ∷ rows) zero j s l e zero q = e q ∙ ap (λ b. has row q || (b && eqb q j)) (sym (eq-eqb 0 0 refl))
drawn_more (row ∷ rows) zero j s l e (suc p) q = sym (or-false (drawn rows p q)) ∙ ap (λ b. drawn rows p q || (b && eqb q j)) (sym (eqb-suc-zero p))
drawn_more (row ∷ rows) (suc i) j s l e zero q = sym (or-false (has row q)) ∙ ap (λ b. has row q || (b && eqb q j)) (sym (eqb-zero-suc i))
drawn_more (row ∷ rows) (suc i) j s l e (suc p) q = drawn_more rows i j s (omega arith) e p q ∙ ap (λ b. drawn rows p q || (b && eqb q j)) (sym (eqb-suc-suc p i))
