-- A run: any list of calls on one book and one row, and the log of them, made from the calls and their answers alone.
use Rattle.std.specs.Prelude.{ℕ, Bool, cond, not, List, [], ◌∷◌, ◌++◌, Ok, Err, filter, Result, ◌==◌}
use Rattle.model.specs.declared.refusals.Refusal.{Refusal}
use Rattle.model.specs.Refusals.{cuts_off}
use Rattle.model.specs.Lists.{among}
use Rattle.model.specs.Kinds.{Kind}
use Rattle.model.specs.Conflicts.{Step, by}
use Rattle.model.specs.Conflicts.Step.{reads, writes}
use Rattle.model.specs.Book.{Book}
use Rattle.model.specs.Calls.{entries_of, read_answer, read_book, write_answer, write_book, write_row, withdraw_answer, withdraw_book}
use Rattle.model.specs.Sweeps.{Swept}
use Rattle.model.specs.Begin.{BeginSweep, begin_answer_on, begin_book_on}

-- the accepted steps of the jobs that were neither cut off nor withdrawn, forgotten ones too;
-- and the jobs held: begun and neither cut off, withdrawn nor forgotten
pub record Log (V : Type 0) : Type 0 where
  pub steps : List (Step V)
  pub held : List ℕ

module _ {V : Type 0} where
  -- at the opening
  abbrev pub empty_log : Log V
  empty_log = record { steps = []; held = [] }

  -- the steps of a job are struck out, and it is held no more
  abbrev pub erased : Log V → ℕ → Log V
  erased l j = record { steps = filter (λ s. not (by s == j)) l.steps; held = filter (λ n. not (n == j)) l.held }

  -- jobs are held no more, but their steps stay
  abbrev pub without : List ℕ → Log V → Log V
  without ns l = record { steps = l.steps; held = filter (λ n. not (among n ns)) l.held }

  -- one step more
  abbrev pub with_step : Log V → Step V → Log V
  with_step l s = record { steps = l.steps ++ (s ∷ []); held = l.held }

  -- only a refusal that cuts its job off changes the log
  abbrev pub refused_log : Refusal → Log V → ℕ → Log V
  refused_log r l j = cond (cuts_off r) (erased l j) l

  -- the log after each call, by its answer

  -- an accepted begin: one more job is held
  abbrev pub begin_log : Result ℕ Refusal → Log V → Log V
  begin_log (Ok n) l = record { steps = l.steps; held = l.held ++ (n ∷ []) }
  begin_log (Err r) l = l

  -- an accepted read: its job, setting and value
  abbrev pub read_log : Result V Refusal → Log V → ℕ → ℕ → Log V
  read_log (Ok v) l j e = with_step l (reads j e v)
  read_log (Err r) l j e = refused_log r l j

  -- the entries are those of the order of the call
  abbrev pub write_log : Result (Unit {0}) Refusal → Log V → ℕ → List (ℕ × V) → Log V
  write_log (Ok t) l j es = with_step l (writes j es)
  write_log (Err r) l j es = refused_log r l j

  -- an accepted withdrawal strikes its job out
  abbrev pub withdraw_log : Result (Unit {0}) Refusal → Log V → ℕ → Log V
  withdraw_log (Ok t) l j = erased l j
  withdraw_log (Err r) l j = l

  module _ (k : Kind V) where
    -- from a book and a row, calls lead to a book, a row and a log; the sweep of a begin, and a sweep,
    -- may be that of any policy, thorough or not, which the list of the jobs forgotten stands for
    pub data Run (b₀ : Book) (row₀ : List V) : Book → List V → Log V → Type 0 where
      start : Run b₀ row₀ b₀ row₀ empty_log
      begin : {b : Book} {row : List V} {l : Log V} (c : Book) (thorough : Bool) (ns : List ℕ) → Run b₀ row₀ b row l → BeginSweep thorough b ns c
          → Run b₀ row₀ (begin_book_on b c) row (begin_log (begin_answer_on b c) (without ns l))
      sweep : {b c : Book} {row : List V} {l : Log V} (thorough : Bool) (ns : List ℕ) → Run b₀ row₀ b row l → Swept thorough b ns c
          → Run b₀ row₀ c row (without ns l)
      read : {b : Book} {row : List V} {l : Log V} (j e : ℕ) → Run b₀ row₀ b row l
          → Run b₀ row₀ (read_book b row j e) row (read_log (read_answer b row j e) l j e)
      write : {b : Book} {row : List V} {l : Log V} (j : ℕ) (bytes : List ℕ) → Run b₀ row₀ b row l
          → Run b₀ row₀ (write_book k b row j bytes) (write_row k b row j bytes)
          (write_log (write_answer k b row j bytes) l j (entries_of k b₀.settings bytes))
      withdraw : {b : Book} {row : List V} {l : Log V} (j : ℕ) → Run b₀ row₀ b row l
          → Run b₀ row₀ (withdraw_book b j) row (withdraw_log (withdraw_answer b j) l j)
