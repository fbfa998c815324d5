-- Different answers have different lines.
use Rattle.std.specs.Prelude.{◌≡◌, ℕ, ◌^◌, ◌<◌, true, Some, None, Ok, Err, Option, Result}
use Rattle.model.specs.declared.refusals.Refusal.{Refusal}
use Rattle.model.specs.Refusals.{entry_of, fault_offset}
use Rattle.model.specs.Kinds.{Kind}
use Rattle.values.specs.Words.{bytes_only}
use Rattle.stream.specs.declared.answers.Answer.{Answer}
use Rattle.stream.specs.declared.answers.Answer.TheVariants as answer
use Rattle.stream.specs.Lines.{line}

-- a number, where one is named, has at most 64 bits
abbrev pub NamedFits : Option ℕ → Type 0
NamedFits None = Unit {0}
NamedFits (Some m) = m < 2 ^ 64

-- a result is as it has to be, or it is a refusal whose entry is
abbrev pub ResultFits : {A : Type 0} → (A → Type 0) → Result A Refusal → Type 0
ResultFits P (Ok x) = P x
ResultFits P (Err r) = NamedFits (entry_of r)

-- what an answer has to be, to be told apart: its numbers have at most 64 bits, and its value is written in bytes
abbrev pub Fits : {V : Type 0} → Kind V → Answer V → Type 0
Fits k (answer.Begin r) = ResultFits (λ n. n < 2 ^ 64) r
Fits k (answer.Read r) = ResultFits (λ v. bytes_only (k.writing v) ≡ true) r
Fits k (answer.Write r) = ResultFits (λ t. Unit {0}) r
Fits k (answer.Withdraw r) = ResultFits (λ t. Unit {0}) r
Fits k (answer.Sweep n) = n < 2 ^ 64
Fits k (answer.Fault f) = fault_offset f < 2 ^ 64

-- lines that are the same are of the same place and the same answer
abbrev pub LinesTellApart : Type 0 → Type 0
LinesTellApart V =
    (k : Kind V) (n m : ℕ) (a b : Answer V) → n < 2 ^ 64 → m < 2 ^ 64 → Fits k a → Fits k b
    → line k n a ≡ line k m b → (n ≡ m) × (a ≡ b)
