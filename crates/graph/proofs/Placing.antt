-- Which indexes have a place, by what `placed` answers.
use Rattle.std.proofs.Common.{◌≡◌, ℕ, ◌<◌, ◌≤◌, Some, None, Option, refl, ap, inl, inr, arith}
use native.Mathlib.Bridge.{le_prop}
use native.Mathlib.Decide.{dec_lt}
use Rattle.std.proofs.lemmas.Bool.{cases_lt}
use Rattle.graph.specs.declared.place.Place.{Place}
use Rattle.graph.specs.Placed.{below_64, placed}

-- ---- of anything that is made of an index below 64

module _ {A : Type 0} (n : ℕ) (make : n < 64 → A) where
  pub below_some : (h : n < 64) → Some (make h) ≡ below_64 n make
  unfolding below_64
  below_some h = go (dec_lt n 64)
    where
      go : (d : Dec (n < 64)) → ◌≡◌ {A = Option A} (Some (make h)) (elim d [ yes l ↦ Some (make l) | no _ ↦ None ])
      go (yes l) = ap (λ s. Some (make s)) (le_prop h l)
      go (no g) = absurd (g h)

  pub past_none : 64 ≤ n → None ≡ below_64 n make
  unfolding below_64
  past_none h = go (dec_lt n 64)
    where
      go : (d : Dec (n < 64)) → ◌≡◌ {A = Option A} None (elim d [ yes l ↦ Some (make l) | no _ ↦ None ])
      go (yes l) = absurd (let z : ⊥ = omega arith in z)
      go (no g) = refl

  pub made_below : (x : A) → Some x ≡ below_64 n make → (h : n < 64) × (x ≡ make h)
  made_below x e = elim (cases_lt n 64) [
    | inl h ↦ let s = below_some h in (h, cc)
    | inr h ↦ let s = past_none h in let z : ◌≡◌ {A = ℕ} 0 1 = cc in absurd (let y : ⊥ = omega arith in y)
  ]

  pub none_past : None ≡ below_64 n make → 64 ≤ n
  none_past e = elim (cases_lt n 64) [
    | inl h ↦ let s = below_some h in let z : ◌≡◌ {A = ℕ} 0 1 = cc in absurd (let y : ⊥ = omega arith in y)
    | inr h ↦ h
  ]

-- ---- of places

-- an index below 64 has its place
pub placed_below : (n : ℕ) (h : n < 64) → Some (record { index = n; small = h }) ≡ placed n
placed_below n h = below_some n _ h

-- an index from 64 on has none
pub placed_past : (n : ℕ) → 64 ≤ n → None ≡ placed n
placed_past n h = past_none n _ h

-- the place of an index has that index
pub placed_index : (n : ℕ) (p : Place) → Some p ≡ placed n → p.index ≡ n
placed_index n p e = ap (λ r. r.index) (made_below n _ p e).1

-- where there is no place, the index is at least 64
pub unplaced : (n : ℕ) → None ≡ placed n → 64 ≤ n
unplaced n e = none_past n _ e
