-- The parts of a collection.
use Rattle.std.specs.Prelude.{◌≡◌, ℕ, ◌^◌, ◌<◌, List, ◌++◌, length}
use Rattle.std.specs.Int.{to_be_bytes, w32}

-- the bytes begin with a part, behind its length in 4 bytes, the high one first, and the rest stands behind it
pub record Begins (bytes part behind : List ℕ) : Type 0 where
  pub small : length part < 2 ^ 32
  pub stands : to_be_bytes w32 (length part) ++ (part ++ behind) ≡ bytes

-- no whole part stands at the beginning of the bytes
abbrev pub NoPart : List ℕ → Type 0
NoPart bytes = (part behind : List ℕ) → Begins bytes part behind → ⊥
