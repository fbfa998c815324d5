-- What the run of a stream has to do with its commands, and with the runs of the book.
use Rattle.std.specs.Prelude.{◌≡◌, ℕ, List, [], ◌∷◌, ◌++◌, None, Option}
use Rattle.model.specs.Lists.{map_list}
use Rattle.model.specs.Kinds.{Kind}
use Rattle.model.specs.Book.{Book}
use Rattle.model.specs.Policies.{Policy}
use Rattle.model.specs.Runs.{Log, Run}
use Rattle.commands.specs.Calls.{Call}
use Rattle.commands.specs.Laws.{Reads, stream_bytes}
use Rattle.stream.specs.declared.endings.Stop.{Stop}
use Rattle.stream.specs.States.{State, after_call, log_after}
use Rattle.stream.specs.Streams.{items}
use Rattle.stream.specs.Streams.Item.{command}

module _ {V S : Type 0} (k : Kind V) (p : Policy S) where
  -- commands carried out one behind another, from a state and a log to a state and a log; e is the number of settings at
  -- the opening
  pub data Carried (e : ℕ) (s₀ : State V S) (l₀ : Log V) : List Call → State V S → Log V → Type 0 where
    none_carried : Carried e s₀ l₀ [] s₀ l₀
    then_carried : {cs : List Call} {s : State V S} {l : Log V} → Carried e s₀ l₀ cs s l → (c : Call)
        → Carried e s₀ l₀ (cs ++ (c ∷ [])) (after_call k p s c) (log_after k p e s c l)

  -- whatever run of the book has led to s, these commands lead it on to t
  abbrev pub Leads : State V S → List Call → State V S → Type 0
  Leads s cs t =
      (b₀ : Book) (row₀ : List V) (l₀ : Log V) → Run k b₀ row₀ s.book s.row l₀
      → (l : Log V) × Carried b₀.settings s l₀ cs t l × Run k b₀ row₀ t.book t.row l

  -- the run of a stream: these commands were carried out, and then it stopped or came to the end
  pub record Follows (bytes : List ℕ) (s : State V S) (cs : List Call) (t : State V S) (stop : Option Stop) : Type 0 where
    -- the stream begins with the bytes of the commands, and has no others where the run came to its end
    pub begins : (rest : List ℕ) × (stream_bytes k.width cs ++ rest ≡ bytes) × (stop ≡ None → rest ≡ [])
    -- they lead on whatever run has led to the book and the row
    pub leads : Leads s cs t

-- what stands in a stream that the reader takes to its end are its commands, one behind another
abbrev pub EveryWholeStreamIsItsCommands : Type 0
EveryWholeStreamIsItsCommands = (w : ℕ) (bytes : List ℕ) (cs : List Call) → Reads w 0 bytes cs → items w bytes ≡ map_list command cs
