-- What is answered when bytes are put into an output from an offset, and what the output then is.
use Rattle.std.specs.Prelude.{ℕ, ◌+◌, cond, List, ◌++◌, length, take, drop, Ok, Err, Result, nat_le}
use Rattle.model.specs.declared.refusals.Refusal.{Refusal}
use Rattle.model.specs.declared.refusals.Refusal.TheVariants.{NoRoom}

-- the offset behind the bytes, if the output reaches so far
abbrev pub put_answer : List ℕ → List ℕ → ℕ → Result ℕ Refusal
put_answer bytes out at = cond (nat_le (at + length bytes) (length out)) (Ok (at + length bytes)) (Err NoRoom)

-- the output with the bytes in place of as many from the offset on, if it reaches so far; else as it was
abbrev pub put_out : List ℕ → List ℕ → ℕ → List ℕ
put_out bytes out at = cond (nat_le (at + length bytes) (length out)) (take at out ++ (bytes ++ drop (at + length bytes) out)) out
