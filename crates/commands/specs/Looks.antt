-- What the reader's look at the next command means.
use denote.Ref.{Bor}
use Rattle.std.specs.Prelude.{ℕ, List, Some, None, Ok, Err, Option, Result}
use Rattle.model.specs.declared.faults.Fault.{Fault}
use Rattle.commands.specs.declared.forms.Command.{Command}
use Rattle.commands.specs.Calls.{call_of}
use Rattle.commands.specs.Reading.{Found, offset_of}
use Rattle.commands.specs.Reading.Found.{ended, took, stopped}

abbrev pub found : Result (Option (Command × Bor (List ℕ))) Fault → Found
found (Ok None) = ended
found (Ok (Some taken)) = took (call_of taken.0) taken.1.now
found (Err f) = stopped f

-- the offset of the order that the command carries; d where there is none
abbrev pub found_offset : Result (Option (Command × Bor (List ℕ))) Fault → ℕ → ℕ
found_offset (Ok None) d = d
found_offset (Ok (Some taken)) d = offset_of taken.0 d
found_offset (Err f) d = d
