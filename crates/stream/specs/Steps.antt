-- The steps of the run of a stream, on an output that is filled from its start.
use Rattle.std.specs.Prelude.{◌≡◌, ℕ, ◌+◌, ◌<◌, ◌≤◌, List, ◌++◌, length, take, drop, Some, None, Option}
use Rattle.model.specs.declared.faults.Fault.{Fault}
use Rattle.model.specs.Kinds.{Kind}
use Rattle.model.specs.Policies.{Policy}
use Rattle.commands.specs.Calls.{Call}
use Rattle.stream.specs.declared.answers.Answer.{Answer}
use Rattle.stream.specs.declared.answers.Answer.TheVariants as answer
use Rattle.stream.specs.declared.endings.Stop.{Stop}
use Rattle.stream.specs.declared.endings.Stop.TheVariants as stop
use Rattle.stream.specs.declared.output.Output.{Output}
use Rattle.stream.specs.Lines.{line, line_room}
use Rattle.stream.specs.States.{State, Carries}

-- the bytes of an output with a line from an offset on
abbrev pub with_line : List ℕ → ℕ → List ℕ → List ℕ
with_line bytes at out = take at out ++ (bytes ++ drop (at + length bytes) out)

-- the n-th command was carried out, from s to t, and its line stands
pub record Answered {V S : Type 0} (k : Kind V) (p : Policy S) (n : ℕ) (c : Call) (s t : State V S) (before after : Output) : Type 0 where
  pub room : before.at + line_room ≤ length before.bytes.now
  pub said : Answer V
  pub carries : Carries k p s c said t
  pub behind : after.at ≡ before.at + length (line k n said)
  pub fits : length (line k n said) ≤ line_room
  pub stands : after.bytes.now ≡ with_line (line k n said) before.at before.bytes.now

-- there was no room for it
pub record Untold (before after : Output) : Type 0 where
  pub no_room : length before.bytes.now < before.at + line_room
  pub ends : after.at ≡ before.at
  pub stands : after.bytes.now ≡ before.bytes.now

-- there was no room for its line, and nothing was done
pub record Unanswered {V S : Type 0} (s t : State V S) (before after : Output) : Type 0 where
  pub untold : Untold before after
  pub same : t ≡ s

-- the line of a fault stands in the place of the n-th command
pub record Told {V : Type 0} (k : Kind V) (n : ℕ) (f : Fault) (before after : Output) : Type 0 where
  pub room : before.at + line_room ≤ length before.bytes.now
  pub behind : after.at ≡ before.at + length (line k n (answer.Fault f))
  pub stands : after.bytes.now ≡ with_line (line k n (answer.Fault f)) before.at before.bytes.now

-- what stops a run where no command stands: nothing at the end of the stream, or a fault, whose line stands if there is
-- room for it
pub record Finishes {V : Type 0} (k : Kind V) (n : ℕ) (met : Option Fault) (before after : Output) (r : Option Stop) : Type 0 where
  pub whole : met ≡ None → (r ≡ None) × (after.at ≡ before.at) × (after.bytes.now ≡ before.bytes.now)
  pub told : (f : Fault) → met ≡ Some f → before.at + line_room ≤ length before.bytes.now → (r ≡ Some (stop.Fault f)) × Told k n f before after
  pub untold : (f : Fault) → met ≡ Some f → length before.bytes.now < before.at + line_room → (r ≡ Some stop.NoRoom) × Untold before after
