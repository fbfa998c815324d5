-- The arrows of a matrix.
use Rattle.std.specs.Prelude.{ℕ, zero, suc, Bool, false, List, [], ◌∷◌}
use Rattle.graph.specs.declared.place_set.PlaceSet.{PlaceSet}
use Rattle.graph.specs.Members.{has}

-- whether the set in row p has q
abbrev pub drawn : List PlaceSet → ℕ → ℕ → Bool
drawn [] p q = false
drawn (row ∷ rows) zero q = has row q
drawn (row ∷ rows) (suc p) q = drawn rows p q
