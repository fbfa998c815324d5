-- Bytes put into an output piece by piece.
use Rattle.std.specs.Prelude.{◌≡◌, ℕ, ◌+◌, ◌≤◌, List, ◌++◌, length, take, drop, Ok, Result}
use Rattle.model.specs.declared.refusals.Refusal.{Refusal}
use Rattle.stream.specs.declared.output.Output.{Output}

-- the bytes of an output are the ones that were lent, changed where they stand
abbrev pub SameOutput : Output → Output → Type 0
SameOutput before after = after.bytes.ghost_name ≡ before.bytes.ghost_name

-- bytes stand behind what stood in an output, with the answer r, and every other byte is as it was
pub record Stand (bytes : List ℕ) (before : Output) (r : Result (Unit {0}) Refusal) (after : Output) : Type 0 where
  pub answers : r ≡ Ok tt
  pub behind : after.at ≡ before.at + length bytes
  pub stands : after.bytes.now ≡ take before.at before.bytes.now ++ (bytes ++ drop (before.at + length bytes) before.bytes.now)

-- bytes are put into an output: where it has room for them, they stand in it then
pub record Puts (bytes : List ℕ) (before : Output) (r : Result (Unit {0}) Refusal) (after : Output) : Type 0 where
  pub same : SameOutput before after
  pub puts : before.at + length bytes ≤ length before.bytes.now → Stand bytes before r after
