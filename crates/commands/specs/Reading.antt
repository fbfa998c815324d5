-- What stands next in a stream.
use Rattle.std.specs.Prelude.{◌≡◌, ℕ, ◌+◌, ◌*◌, cond, List, [], ◌∷◌, length, take, drop, Some, None, Option, ◌==◌, nat_le, nat_lt, slice_index}
use Rattle.model.specs.declared.faults.Fault.{Fault}
use Rattle.model.specs.declared.faults.Fault.TheVariants.{TooLong, NoLetter, CutShort}
use Rattle.model.specs.Orders.{entry_size}
use Rattle.values.specs.Words.{word_at}
use Rattle.commands.specs.declared.forms.Command.{Command}
use Rattle.commands.specs.declared.forms.Command.TheVariants.{Begin, Read, Write, Withdraw, Sweep}
use Rattle.commands.specs.Calls.{Call, call_of, begin_letter, read_letter, write_letter, withdraw_letter, sweep_letter}
use Rattle.commands.specs.Calls.Call.{begins, reads, writes, withdraws, sweeps}

-- the end of the stream, a command with the bytes behind it, or a fault
pub data Found : Type 0 where
  ended : Found
  took : Call → List ℕ → Found
  stopped : Fault → Found

-- the most bytes that a stream may have
abbrev pub longest : ℕ
longest = 65535

-- a command whose n bytes behind the letter have to stand there
abbrev pub with_operands : ℕ → ℕ → Call → List ℕ → Found
with_operands at n c rest = cond (nat_le n (length rest)) (took c (drop n rest)) (stopped (CutShort at))

-- what the bytes from an offset on begin with, where a value has w bytes
abbrev pub next_command : ℕ → ℕ → List ℕ → Found
next_command w at [] = ended
next_command w at (letter ∷ rest) =
    let job = word_at rest 0 in
    let size = slice_index rest 2 * entry_size w in
    cond (letter == begin_letter) (took begins rest)
    (cond (letter == read_letter) (with_operands at 3 (reads job (slice_index rest 2)) rest)
    (cond (letter == write_letter) (with_operands at (3 + size) (writes job (take size (drop 3 rest))) rest)
    (cond (letter == withdraw_letter) (with_operands at 2 (withdraws job) rest)
    (cond (letter == sweep_letter) (took sweeps rest) (stopped (NoLetter at))))))

-- the same of a stream that may be too long: `at` bytes of it were read
abbrev pub next_at : ℕ → ℕ → List ℕ → Found
next_at w at bytes = cond (nat_lt longest (at + length bytes)) (stopped TooLong) (next_command w at bytes)

abbrev pub call_taken : Found → Option Call
call_taken ended = None
call_taken (took c rest) = Some c
call_taken (stopped f) = None

abbrev pub fault_met : Found → Option Fault
fault_met ended = None
fault_met (took c rest) = None
fault_met (stopped f) = Some f

-- what is left of the bytes once a command was taken
abbrev pub rest_behind : List ℕ → Found → List ℕ
rest_behind bytes ended = bytes
rest_behind bytes (took c rest) = rest
rest_behind bytes (stopped f) = bytes

-- the call that a command asks for, where there is one
abbrev pub asked : Option Command → Option Call
asked None = None
asked (Some c) = Some (call_of c)

-- the offset of the order that a command carries; d where it carries none
abbrev pub offset_of : Command → ℕ → ℕ
offset_of Begin d = d
offset_of (Read job setting) d = d
offset_of (Write job order) d = order.offset
offset_of (Withdraw job) d = d
offset_of Sweep d = d

abbrev pub order_offset : Option Command → ℕ → ℕ
order_offset None d = d
order_offset (Some c) d = offset_of c d

-- what a reader that stands at an offset gives: the command that stands there, or none; and where it then stands, with the bytes that are left
pub record Takes (w from : ℕ) (bytes : List ℕ) (given : Option Command) (to : ℕ) (left : List ℕ) : Type 0 where
  pub command : asked given ≡ call_taken (next_at w from bytes)
  -- an order stands behind the letter and its operands
  pub order : order_offset given (from + 4) ≡ from + 4
  pub rest : left ≡ rest_behind bytes (next_at w from bytes)
  pub at : to + length left ≡ from + length bytes
