-- When a text lists a stream.
use Rattle.std.specs.Prelude.{◌≡◌, ℕ, ◌+◌, List, [], ◌∷◌, ◌++◌, length}
use Rattle.model.specs.declared.faults.Fault.{Fault}
use Rattle.commands.specs.Calls.{Call}
use Rattle.commands.specs.Reading.{next_at}
use Rattle.commands.specs.Reading.Found.{ended, took, stopped}
use Rattle.commands.specs.Laws.{Reads}
use Rattle.listing.specs.Lines.{width, command_words, fault_words}

-- the text lists the bytes that begin at an offset, with lines numbered from n on
pub data Lists : ℕ → ℕ → List ℕ → List ℕ → Type 0 where
  at_end : {n at : ℕ} {bytes : List ℕ} → next_at width at bytes ≡ ended → Lists n at bytes []
  at_fault : {n at : ℕ} {bytes : List ℕ} {f : Fault} → next_at width at bytes ≡ stopped f → Lists n at bytes (fault_words n f)
  command : {n at next : ℕ} {bytes rest text : List ℕ} {c : Call}
      → next_at width at bytes ≡ took c rest → next + length rest ≡ at + length bytes → Lists (n + 1) next rest text
      → Lists n at bytes (command_words n c ++ text)

-- the lines of commands, numbered from n on
abbrev pub lines_from : ℕ → List Call → List ℕ
lines_from n [] = []
lines_from n (c ∷ cs) = command_words n c ++ lines_from (n + 1) cs

-- a stream that is whole commands is listed by the lines of these, and nothing more
abbrev pub ListsCommands : List ℕ → List ℕ → Type 0
ListsCommands bytes text = (cs : List Call) → Reads width 0 bytes cs → text ≡ lines_from 1 cs
