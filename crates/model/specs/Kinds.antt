-- A kind of value, by what it makes of bytes.
use Rattle.std.specs.Prelude.{◌≡◌, ℕ, ◌≤◌, List, length, Some, Option}

-- a width, a reading of that many bytes that may refuse them, and a writing; each undoes the other
pub record Kind (V : Type 0) : Type 0 where
  pub width : ℕ
  pub reading : List ℕ → Option V
  pub writing : V → List ℕ
  pub narrow : (1 ≤ width) × (width ≤ 8)
  pub sized : (v : V) → length (writing v) ≡ width
  -- a value that is written reads back as itself
  pub reads_back : (v : V) → reading (writing v) ≡ Some v
  -- bytes that are accepted are the ones that their value writes
  pub writes_back : (bytes : List ℕ) (v : V) → reading bytes ≡ Some v → writing v ≡ bytes
