-- The line that tells what a command was answered.
use Rattle.std.specs.Prelude.{ℕ, ◌+◌, ◌*◌, ◌/◌, ◌%◌, ◌<◌, ◌≤◌, cond, List, [], ◌∷◌, ◌++◌, length, Some, None, Ok, Err, codes, decimal, Option, Result, nat_le, nat_lt}
use Rattle.model.specs.declared.refusals.Refusal.{Refusal}
use Rattle.model.specs.declared.faults.Fault.{Fault}
use Rattle.model.specs.Refusals.{number_of, entry_of, fault_number, fault_offset}
use Rattle.model.specs.Kinds.{Kind}
use Rattle.commands.specs.Reading.{longest}
use Rattle.commands.specs.Calls.{begin_letter, read_letter, write_letter, withdraw_letter, sweep_letter}
use Rattle.stream.specs.declared.answers.Answer.{Answer}
use Rattle.stream.specs.declared.answers.Answer.TheVariants as answer

-- the character of a digit below 16, in lower case
abbrev pub hex_digit : ℕ → ℕ
hex_digit n = cond (nat_lt n 10) (48 + n) (87 + n)

-- bytes in hexadecimal, two digits each
abbrev pub hex : List ℕ → List ℕ
hex [] = []
hex (b ∷ bs) = hex_digit (b / 16) ∷ (hex_digit (b % 16) ∷ hex bs)

-- a space and a number
abbrev pub spaced_number : ℕ → List ℕ
spaced_number n = codes " " ++ decimal n

-- `ok` with a number
abbrev pub number_words : ℕ → List ℕ
number_words n = codes "ok" ++ spaced_number n

-- `ok` with a value
abbrev pub value_words : {V : Type 0} → Kind V → V → List ℕ
value_words k v = codes "ok " ++ hex (k.writing v)

-- `no` with a number, and behind it what else is named: an entry or an offset
abbrev pub no_words : ℕ → Option ℕ → List ℕ
no_words n None = codes "no" ++ spaced_number n
no_words n (Some m) = codes "no" ++ (spaced_number n ++ spaced_number m)

-- a refusal, by its number and the entry that it may name
abbrev pub refusal_words : Refusal → List ℕ
refusal_words r = no_words (number_of r) (entry_of r)

-- a fault, by its number and its offset
abbrev pub fault_words : Fault → List ℕ
fault_words f = no_words (fault_number f) (Some (fault_offset f))

-- a result, by the words for it, or a refusal
abbrev pub result_words : {A : Type 0} → (A → List ℕ) → Result A Refusal → List ℕ
result_words words (Ok x) = words x
result_words words (Err r) = refusal_words r

-- the room that a line must find
abbrev pub line_room : ℕ
line_room = 32

-- how many bytes suffice for the lines of a stream of so many bytes: one line for each, and one for a fault
abbrev pub lines_room : ℕ → ℕ
lines_room n = cond (nat_le n longest) (line_room * (n + 1)) line_room

-- ?
abbrev pub fault_letter : ℕ
fault_letter = 63

module _ {V : Type 0} where
  -- the letter of the command that was answered
  abbrev pub letter_of : Answer V → ℕ
  letter_of (answer.Begin r) = begin_letter
  letter_of (answer.Read r) = read_letter
  letter_of (answer.Write r) = write_letter
  letter_of (answer.Withdraw r) = withdraw_letter
  letter_of (answer.Sweep n) = sweep_letter
  letter_of (answer.Fault f) = fault_letter

  -- the words behind the letter
  abbrev pub answer_words : Kind V → Answer V → List ℕ
  answer_words k (answer.Begin r) = result_words number_words r
  answer_words k (answer.Read r) = result_words (value_words k) r
  answer_words k (answer.Write r) = result_words (λ t. codes "ok") r
  answer_words k (answer.Withdraw r) = result_words (λ t. codes "ok") r
  answer_words k (answer.Sweep n) = number_words n
  answer_words k (answer.Fault f) = fault_words f

  -- the line of the n-th command: its place, its letter and the words, and a line feed
  abbrev pub line : Kind V → ℕ → Answer V → List ℕ
  line k n a = decimal n ++ (codes " " ++ (letter_of a ∷ (codes " " ++ (answer_words k a ++ codes "\n"))))

  -- an offset, where one is told, is that of a byte of a stream
  abbrev pub Near : Answer V → Type 0
  Near (answer.Begin r) = Unit {0}
  Near (answer.Read r) = Unit {0}
  Near (answer.Write r) = Unit {0}
  Near (answer.Withdraw r) = Unit {0}
  Near (answer.Sweep n) = Unit {0}
  Near (answer.Fault f) = fault_offset f < 65536

  -- the words of an answer are few
  abbrev pub Brief : Kind V → Answer V → Type 0
  Brief k a = Near a → length (answer_words k a) ≤ 23
