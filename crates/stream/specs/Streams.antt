-- What a stream of commands does: the lines, what is left, and what stops it.
use Rattle.std.specs.Prelude.{◌≡◌, ℕ, zero, suc, ◌+◌, ◌-◌, ◌≤◌, Bool, cond, List, [], ◌∷◌, ◌++◌, length, drop, Some, None, Option, ◌≢◌, nat_le}
use Rattle.model.specs.declared.faults.Fault.{Fault}
use Rattle.model.specs.Kinds.{Kind}
use Rattle.model.specs.Policies.{Policy}
use Rattle.commands.specs.Calls.{Call}
use Rattle.commands.specs.Reading.{Found, next_at}
use Rattle.commands.specs.Reading.Found.{ended, took, stopped}
use Rattle.stream.specs.declared.answers.Answer.TheVariants as answer
use Rattle.stream.specs.declared.endings.Ended.{Ended}
use Rattle.stream.specs.declared.endings.Stop.{Stop}
use Rattle.stream.specs.declared.endings.Stop.TheVariants as stop
use Rattle.stream.specs.Lines.{line, line_room, lines_room}
use Rattle.stream.specs.States.{State, answer_to, after_call}

-- what stands in a stream: a command, or the fault that ends it
pub data Item : Type 0 where
  command : Call → Item
  fault : Fault → Item

-- what was found, and what stands behind a command
abbrev pub item_first : Found → (List ℕ → List Item) → List Item
item_first ended behind = []
item_first (took c rest) behind = command c ∷ behind rest
item_first (stopped f) behind = fault f ∷ []

-- what stands in the bytes that begin at an offset, one behind another, where a value has w bytes; at most so many
abbrev pub items_from : ℕ → ℕ → ℕ → List ℕ → List Item
items_from w zero at bytes = []
items_from w (suc most) at bytes = item_first (next_at w at bytes) (λ rest. items_from w most (at + (length bytes - length rest)) rest)

-- what stands in a stream; a command has one byte at least, so that it has no more commands than bytes
abbrev pub items : ℕ → List ℕ → List Item
items w bytes = items_from w (suc (length bytes)) 0 bytes

-- how far a run has come: the commands carried out, their lines, and what they have left
pub record Progress (V S : Type 0) : Type 0 where
  pub calls : List Call
  pub text : List ℕ
  pub left : State V S

module _ {V S : Type 0} where
  -- at the start
  abbrev pub start : State V S → Progress V S
  start s = record { calls = []; text = []; left = s }

  -- the place of the next command, from 1
  abbrev pub place : Progress V S → ℕ
  place g = length g.calls + 1

  -- there is room for one more line in an output of so many bytes
  abbrev pub has_room : ℕ → Progress V S → Bool
  has_room size g = nat_le (length g.text + line_room) size

  module _ (k : Kind V) (p : Policy S) where
    -- one command more is carried out
    abbrev pub with_command : Progress V S → Call → Progress V S
    with_command g c = record {
      calls = g.calls ++ (c ∷ []);
      text = g.text ++ line k (place g) (answer_to k p g.left c);
      left = after_call k p g.left c;
    }

    -- the line of a fault stands
    abbrev pub with_fault : Progress V S → Fault → Progress V S
    with_fault g f = record { calls = g.calls; text = g.text ++ line k (place g) (answer.Fault f); left = g.left }

    -- a run goes on with what stands in its stream, in an output of so many bytes: how far it comes, and what stops it
    abbrev pub run_on : ℕ → Progress V S → List Item → Progress V S × Option Stop
    run_on size g [] = (g, None)
    run_on size g (command c ∷ more) = cond (has_room size g) (run_on size (with_command g c) more) (g, Some stop.NoRoom)
    run_on size g (fault f ∷ more) = cond (has_room size g) (with_fault g f, Some (stop.Fault f)) (g, Some stop.NoRoom)

    -- the run of a stream
    abbrev pub ran : ℕ → State V S → List ℕ → Progress V S × Option Stop
    ran size s bytes = run_on size (start s) (items k.width bytes)

    -- a run of a stream leads from s to t, with the lines in the output, and ends as r says
    pub record Runs (bytes : List ℕ) (s t : State V S) (out after : List ℕ) (r : Ended) : Type 0 where
      pub lines : after ≡ (ran (length out) s bytes).0.text ++ drop (length (ran (length out) s bytes).0.text) out
      pub long : r.length ≡ length (ran (length out) s bytes).0.text
      pub stops : r.stop ≡ (ran (length out) s bytes).1
      pub leaves : t ≡ (ran (length out) s bytes).0.left
      -- no room is wanting where the output has room for the lines of any stream of this length
      pub roomy : lines_room (length bytes) ≤ length out → r.stop ≢ Some stop.NoRoom
