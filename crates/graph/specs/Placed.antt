-- Which indexes have a place.
use Rattle.std.proofs.Math.Decide.{dec_lt}
use Rattle.std.specs.Prelude.{ℕ, ◌<◌, Some, None, Option}
use Rattle.graph.specs.declared.place.Place.{Place}

-- what `make` makes of an index below 64, and none for another
unfoldable pub below_64 : {A : Type 0} (n : ℕ) → (n < 64 → A) → Option A
below_64 n make = elim (dec_lt n 64) [ yes h ↦ Some (make h) | no _ ↦ None ]

-- the place of an index below 64, and none for another
abbrev pub placed : ℕ → Option Place
placed n = below_64 n (λ h. record { index = n; small = h })
