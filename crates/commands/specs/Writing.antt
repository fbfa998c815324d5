-- What is answered when a command is written, and what the output then is.
use Rattle.std.specs.Prelude.{ℕ, cond, List, Some, None, Err, Option, Result}
use Rattle.model.specs.declared.refusals.Refusal.{Refusal}
use Rattle.model.specs.declared.refusals.Refusal.TheVariants.{OrderForm}
use Rattle.model.specs.Orders.{entry_count, order_formed}
use Rattle.values.specs.Output.{put_answer, put_out}
use Rattle.commands.specs.Calls.{Call, command_bytes, well_formed}

-- how many entries an order has, if it is well-formed
abbrev pub entries_if_formed : ℕ → List ℕ → Option ℕ
entries_if_formed w order = cond (order_formed w order) (Some (entry_count w order)) None

-- the form of the order is looked at first, then the room
abbrev pub write_answer : ℕ → Call → List ℕ → ℕ → Result ℕ Refusal
write_answer w c out at = cond (well_formed w c) (put_answer (command_bytes w c) out at) (Err OrderForm)

abbrev pub write_out : ℕ → Call → List ℕ → ℕ → List ℕ
write_out w c out at = cond (well_formed w c) (put_out (command_bytes w c) out at) out
