-- What a command asks for, and its bytes.
use Rattle.std.specs.Prelude.{ℕ, Bool, true, List, [], ◌∷◌, ◌++◌}
use Rattle.model.specs.Orders.{entry_count, order_formed}
use Rattle.values.specs.Words.{word}
use Rattle.commands.specs.declared.forms.Command.{Command}
use Rattle.commands.specs.declared.forms.Command.TheVariants.{Begin, Read, Write, Withdraw, Sweep}

-- the call that a command asks for, by its operands; an order is its bytes
pub data Call : Type 0 where
  begins : Call
  reads : (job setting : ℕ) → Call
  writes : (job : ℕ) (order : List ℕ) → Call
  withdraws : (job : ℕ) → Call
  sweeps : Call

abbrev pub call_of : Command → Call
call_of Begin = begins
call_of (Read job setting) = reads job setting
call_of (Write job order) = writes job order.bytes.now
call_of (Withdraw job) = withdraws job
call_of Sweep = sweeps

-- B, R, W, X and S
abbrev pub begin_letter : ℕ
begin_letter = 66

abbrev pub read_letter : ℕ
read_letter = 82

abbrev pub write_letter : ℕ
write_letter = 87

abbrev pub withdraw_letter : ℕ
withdraw_letter = 88

abbrev pub sweep_letter : ℕ
sweep_letter = 83

-- the bytes of a command, where a value has w of them: its letter, its operands and, of a write, the number of entries and the order
abbrev pub command_bytes : ℕ → Call → List ℕ
command_bytes w begins = begin_letter ∷ []
command_bytes w (reads job setting) = read_letter ∷ word job ++ (setting ∷ [])
command_bytes w (writes job order) = write_letter ∷ word job ++ (entry_count w order ∷ order)
command_bytes w (withdraws job) = withdraw_letter ∷ word job
command_bytes w sweeps = sweep_letter ∷ []

-- a command is well-formed unless it is a write whose order is not
abbrev pub well_formed : ℕ → Call → Bool
well_formed w begins = true
well_formed w (reads job setting) = true
well_formed w (writes job order) = order_formed w order
well_formed w (withdraws job) = true
well_formed w sweeps = true
