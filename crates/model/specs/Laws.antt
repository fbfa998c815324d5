-- What holds of every run of an opened book.
use Rattle.std.specs.Prelude.{◌≡◌, ℕ, true, T, ◌↔◌, List, [], ◌∷◌, ◌++◌, length, is_ok, Some, Ok, Err, Result}
use Rattle.std.specs.List.{slice_get}
use Rattle.model.specs.declared.refusals.Refusal.{Refusal}
use Rattle.model.specs.declared.refusals.Refusal.TheVariants.{Circle, BookFull}
use Rattle.model.specs.Lists.{among}
use Rattle.model.specs.Kinds.{Kind}
use Rattle.model.specs.Conflicts.{Step, finishes, HasCircle}
use Rattle.model.specs.Conflicts.Step.{reads, writes}
use Rattle.model.specs.Book.{Book, forgotten, is_held, is_active}
use Rattle.model.specs.Possible.{Possible}
use Rattle.model.specs.Calls.{opened, read_answer, read_book, write_answer, write_book, withdraw_book, order_entries}
use Rattle.model.specs.Policies.{Policy, Lawful}
use Rattle.model.specs.Sweeps.{sweep_forgets, sweep_book, SweepExact}
use Rattle.model.specs.Begin.{BeginSweep, begin_answer_on, begin_forgets, begin_answer, begin_book, BeginExact}
use Rattle.model.specs.Runs.{Log, Run, without, begin_log}
use Rattle.model.specs.Serial.{Serially, KeepsConflicts}

-- withdrawals, each of a job that is active at that moment
pub data Withdraws : Book → List ℕ → Book → Type 0 where
  none_withdrawn : {b : Book} → Withdraws b [] b
  then_withdraws : {b c : Book} {n : ℕ} {ns : List ℕ} → T (is_active b n) → Withdraws (withdraw_book b n) ns c → Withdraws b (n ∷ ns) c

module _ {V : Type 0} where
  -- the book agrees with the opening and with the log
  pub record Agrees (b₀ : Book) (row₀ : List V) (b : Book) (row : List V) (l : Log V) : Type 0 where
    pub settings_stand : b.settings ≡ b₀.settings
    pub limit_stands : b.limit ≡ b₀.limit
    pub row_stands : length row ≡ length row₀
    -- it holds exactly the jobs that the log holds
    pub held_agree : (n : ℕ) → T (is_held b n) ↔ T (among n l.held)
    -- and of these exactly those without a write in the log are active
    pub active_agree : (n : ℕ) → T (is_active b n) ↔ (T (among n l.held) × (T (finishes l.steps n) → ⊥))

  -- a step is cut off exactly when the steps, with it as the last, have a circle of conflicts;
  -- otherwise it is accepted, with the result x
  pub record Exact {A : Type 0} (r : Result A Refusal) (x : A) (steps : List (Step V)) : Type 0 where
    pub cut_off : (r ≡ Err Circle) ↔ HasCircle steps
    pub accepted : (r ≡ Ok x) ↔ (HasCircle steps → ⊥)

  -- the job i is needed: after some withdrawals a step is cut off, and the same step is accepted where i was forgotten first
  pub data Needed (k : Kind V) (b : Book) (row : List V) (i : ℕ) : Type 0 where
    by_read : (ns : List ℕ) (c d : Book) (j e : ℕ) → Withdraws b ns c → Withdraws (forgotten b i) ns d
        → read_answer c row j e ≡ Err Circle → T (is_ok (read_answer d row j e)) → Needed k b row i
    by_write : (ns : List ℕ) (c d : Book) (j : ℕ) (bytes : List ℕ) → Withdraws b ns c → Withdraws (forgotten b i) ns d
        → write_answer k c row j bytes ≡ Err Circle → T (is_ok (write_answer k d row j bytes)) → Needed k b row i

  -- what holds after a run from the book b₀ and the row row₀, which has led to a book, a row and a log
  pub record SoundAfter (k : Kind V) (b₀ : Book) (row₀ : List V) (b : Book) (row : List V) (l : Log V) : Type 0 where
    pub possible : Possible b
    pub agrees : Agrees b₀ row₀ b row l
    -- a step that passes the other checks, by what calls and answers say, is answered exactly
    pub read_exact : (j e : ℕ) (v : V)
        → length row ≡ b₀.settings → T (among j l.held) → (T (finishes l.steps j) → ⊥) → slice_get row e ≡ Some v
        → Exact (read_answer b row j e) v (l.steps ++ (reads j e v ∷ []))
    pub write_exact : (j : ℕ) (bytes : List ℕ) (es : List (ℕ × V))
        → length row ≡ b₀.settings → T (among j l.held) → (T (finishes l.steps j) → ⊥) → order_entries k b₀.settings bytes ≡ Ok es
        → Exact (write_answer k b row j bytes) tt (l.steps ++ (writes j es ∷ []))
    -- the finished jobs, run singly in any order that keeps the conflicts, read what they read and leave the row as it is
    pub every_order : (order : List ℕ) → KeepsConflicts l.steps order → Serially l.steps row₀ order row
    -- there is such an order
    pub some_order : (order : List ℕ) × KeepsConflicts l.steps order
    -- a begin refused for want of room under a thorough policy: every finished job that is held is needed
    pub needed : (c : Book) (ns : List ℕ) → BeginSweep true b ns c → begin_answer_on b c ≡ Err BookFull
        → (i : ℕ) → T (among i l.held) → T (finishes l.steps i) → Needed k c row i

  -- it holds after every run
  abbrev pub Sound : Kind V → Book → List V → Type 0
  Sound k b₀ row₀ = (b : Book) (row : List V) (l : Log V) → Run k b₀ row₀ b row l → SoundAfter k b₀ row₀ b row l

  -- a begin and a sweep under a policy, after a run: each is a step of a run, and does what it should
  pub record UnderPolicy {S : Type 0} (k : Kind V) (b₀ : Book) (row₀ : List V) (b : Book) (row : List V) (l : Log V)
      (p : Policy S) (s : S) : Type 0 where
    pub begins : Run k b₀ row₀ (begin_book p s b) row (begin_log (begin_answer p s b) (without (begin_forgets p s b) l))
    pub sweeps : Run k b₀ row₀ (sweep_book p s b) row (without (sweep_forgets p s b) l)
    pub begin_exact : BeginExact p s b
    pub sweep_exact : SweepExact p s b
    -- a begin refused for want of room, the policy being thorough: every finished job that is held is needed
    pub needed : T (p.thorough s) → begin_answer p s b ≡ Err BookFull
        → (i : ℕ) → T (among i l.held) → T (finishes l.steps i) → Needed k (begin_book p s b) row i

  -- a read, a write and a withdrawal lead from a book that can exist to one; of begins and sweeps their own laws say so
  pub record KeepsPossible (k : Kind V) (b : Book) : Type 0 where
    pub by_read : (row : List V) (j e : ℕ) → Possible (read_book b row j e)
    pub by_write : (row : List V) (j : ℕ) (bytes : List ℕ) → Possible (write_book k b row j bytes)
    pub by_withdraw : (j : ℕ) → Possible (withdraw_book b j)

-- the statements

-- for every kind of value, every opening that is accepted, and every row
abbrev pub EveryRunIsSound : Type 0 → Type 0
EveryRunIsSound V = (k : Kind V) (e a : ℕ) (b₀ : Book) → opened e a ≡ Ok b₀ → (row₀ : List V) → Sound k b₀ row₀

-- for every kind of value, every run of a sound book, every lawful policy and every count
abbrev pub EveryCallUnderAPolicy : Type 0 → Type 0 → Type 0
EveryCallUnderAPolicy V S =
    (k : Kind V) (b₀ : Book) (row₀ : List V) → Sound k b₀ row₀
    → (b : Book) (row : List V) (l : Log V) → Run k b₀ row₀ b row l
    → (p : Policy S) → Lawful p → (s : S) → UnderPolicy k b₀ row₀ b row l p s

-- for every kind of value and every book that can exist
abbrev pub EveryCallKeepsPossible : Type 0 → Type 0
EveryCallKeepsPossible V = (k : Kind V) (b : Book) → Possible b → KeepsPossible k b
