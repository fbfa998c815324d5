-- Which places a set has.
use Rattle.std.specs.Prelude.{◌≡◌, ℕ, zero, suc, ◌/◌, ◌%◌, ◌<◌, Bool, false, not, ◌&&◌, T, List, filter, Some, None, Option, ◌==◌, nat_lt}
use Rattle.std.specs.List.{range_with_len}
use Rattle.graph.specs.declared.place.Place.{Place}
use Rattle.graph.specs.declared.place_set.PlaceSet.{PlaceSet}

-- whether the digit of weight 2 ^ k stands in the mask
abbrev pub holds : ℕ → ℕ → Bool
holds m zero = m % 2 == 1
holds m (suc k) = holds (m / 2) k

-- whether the set has the place of index k
unfoldable pub has : PlaceSet → ℕ → Bool
has s k = nat_lt k 64 && holds s.mask k

-- the indexes of the places of a set, in rising order
abbrev pub listed : PlaceSet → List ℕ
listed s = filter (has s) (range_with_len 0 64)

-- the answer is yes exactly when some place is in both sets
pub record Shared (s t : PlaceSet) (answer : Bool) : Type 0 where
  pub some : T answer → (k : ℕ) × T (has s k) × T (has t k)
  pub told : (k : ℕ) → T (has s k) → T (has t k) → T answer

-- n is the least place of the set, and `rest` has the others
pub record First (s rest : PlaceSet) (n : ℕ) : Type 0 where
  pub member : T (has s n)
  pub least : (k : ℕ) → k < n → has s k ≡ false
  pub others : (k : ℕ) → has rest k ≡ (has s k && not (k == n))

-- the set has no place
abbrev pub Empty : PlaceSet → Type 0
Empty s = (k : ℕ) → has s k ≡ false

-- the least place was taken out of the set, or there was none, and then there is none after either
abbrev pub Taken : PlaceSet → PlaceSet → Option Place → Type 0
Taken s rest None = Empty s × Empty rest
Taken s rest (Some p) = First s rest p.index
