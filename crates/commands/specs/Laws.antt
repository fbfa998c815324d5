-- What reading and writing have to do with each other, for every width of a value.
use Rattle.std.specs.Prelude.{◌≡◌, ℕ, ◌+◌, ◌<◌, ◌≤◌, Bool, true, ◌&&◌, List, [], ◌∷◌, ◌++◌, length}
use Rattle.std.specs.List.{flat_map}
use Rattle.model.specs.declared.faults.Fault.TheVariants.{TooLong}
use Rattle.values.specs.Words.{bytes_only}
use Rattle.commands.specs.Calls.{Call, command_bytes, well_formed}
use Rattle.commands.specs.Reading.{next_at, longest}
use Rattle.commands.specs.Reading.Found.{ended, took, stopped}

-- the bytes of a well-formed command read back as that command, with what follows left over
abbrev pub ReadsBack : Type 0
ReadsBack =
    (w at : ℕ) (c : Call) (more : List ℕ) → well_formed w c ≡ true → at + length (command_bytes w c ++ more) ≤ longest
    → next_at w at (command_bytes w c ++ more) ≡ took c more

-- a command that was read has the very bytes that it was read from
abbrev pub WritesBack : Type 0
WritesBack =
    (w at : ℕ) (bytes rest : List ℕ) (c : Call) → bytes_only bytes ≡ true → next_at w at bytes ≡ took c rest
    → command_bytes w c ++ rest ≡ bytes

-- from an offset on, the reader takes these commands one after another and then meets the end, and no fault
pub data Reads (w : ℕ) : ℕ → List ℕ → List Call → Type 0 where
  no_more : {at : ℕ} {bytes : List ℕ} → next_at w at bytes ≡ ended → Reads w at bytes []
  and_then : {at next : ℕ} {bytes rest : List ℕ} {c : Call} {cs : List Call}
      → next_at w at bytes ≡ took c rest → next + length rest ≡ at + length bytes → Reads w next rest cs → Reads w at bytes (c ∷ cs)

-- the bytes of commands, one after another
abbrev pub stream_bytes : ℕ → List Call → List ℕ
stream_bytes w cs = flat_map (command_bytes w) cs

abbrev pub each_well_formed : ℕ → List Call → Bool
each_well_formed w [] = true
each_well_formed w (c ∷ cs) = well_formed w c && each_well_formed w cs

-- the bytes of well-formed commands read back as those commands and nothing more; where they are too many, the reader says so at once
pub record StreamReadsBack (w : ℕ) (cs : List Call) : Type 0 where
  pub reads : length (stream_bytes w cs) ≤ longest → Reads w 0 (stream_bytes w cs) cs
  pub too_long : longest < length (stream_bytes w cs) → next_at w 0 (stream_bytes w cs) ≡ stopped TooLong

abbrev pub StreamsReadBack : Type 0
StreamsReadBack = (w : ℕ) (cs : List Call) → each_well_formed w cs ≡ true → StreamReadsBack w cs

-- a stream that was read to its end is the bytes of its commands
abbrev pub StreamsWriteBack : Type 0
StreamsWriteBack = (w : ℕ) (bytes : List ℕ) (cs : List Call) → bytes_only bytes ≡ true → Reads w 0 bytes cs → stream_bytes w cs ≡ bytes
