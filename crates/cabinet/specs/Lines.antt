-- The lines of a stream on a new book.
use Rattle.std.specs.Prelude.{◌≡◌, ℕ, List, length, Some, Option, Result, MatchResult}
use Rattle.cabinet.specs.declared.unanswered.Unanswered.{Unanswered}
use Rattle.cabinet.specs.declared.unanswered.Unanswered.TheVariants.{NoMemory}
use Rattle.model.specs.Kinds.{Kind}
use Rattle.model.specs.Calls.{new_book}
use Rattle.model.specs.Policies.{Policy}
use Rattle.model.specs.Runs.{Log, empty_log}
use Rattle.model.specs.Laws.{SoundAfter}
use Rattle.stream.specs.declared.endings.Stop.{Stop}
use Rattle.stream.specs.declared.endings.Stop.TheVariants.{NoRoom}
use Rattle.stream.specs.Lines.{lines_room}
use Rattle.stream.specs.States.{State, state}
use Rattle.stream.specs.Streams.{Progress, ran}
use Rattle.stream.specs.Laws.{Carried}

abbrev pub settings : ℕ
settings = 15

abbrev pub limit : ℕ
limit = 4

module _ {V S : Type 0} where
  -- a new book, a row and a policy
  abbrev pub opening : List V → S → State V S
  opening row s = state (new_book settings limit) row s

  module _ (k : Kind V) (p : Policy S) (row : List V) (s : S) (bytes : List ℕ) where
    -- the run of a stream, with room for every line
    abbrev pub outcome : Progress V S × Option Stop
    outcome = ran k p (lines_room (length bytes)) (opening row s) bytes

    -- a text is the lines of the run, of which the laws of every run hold
    pub record Answered (text : List ℕ) : Type 0 where
      pub lines : text ≡ outcome.0.text
      -- every command has its line, up to a fault
      pub roomy : outcome.1 ≡ Some NoRoom → ⊥
      -- the commands that were carried out, and the log of them
      pub log : Log V
      pub carried : Carried k p settings (opening row s) empty_log outcome.0.calls outcome.0.left log
      pub sound : SoundAfter k (new_book settings limit) row outcome.0.left.book outcome.0.left.row log

    -- a call answers such a text, which `shown` reads from its answer, and fails only for want of memory
    abbrev pub Responds : {A : Type 0} → (A → List ℕ) → Result A Unanswered → Type 0
    Responds shown r = MatchResult r (λ a. Answered (shown a)) (λ e. e ≡ NoMemory)
