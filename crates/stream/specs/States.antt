-- What a command does to a book, a row and a policy.
use Rattle.std.specs.Prelude.{◌≡◌, ℕ, List}
use Rattle.model.specs.Kinds.{Kind}
use Rattle.model.specs.Book.{Book}
use Rattle.model.specs.Calls.{read_answer, read_book, write_answer, write_book, write_row, entries_of, withdraw_answer, withdraw_book}
use Rattle.model.specs.Policies.{Policy}
use Rattle.model.specs.Sweeps.{sweep_answer, sweep_forgets, sweep_next, sweep_book}
use Rattle.model.specs.Begin.{begin_answer, begin_forgets, begin_next, begin_book}
use Rattle.model.specs.Runs.{Log, Run, without, begin_log, read_log, write_log, withdraw_log}
use Rattle.commands.specs.Calls.{Call}
use Rattle.commands.specs.Calls.Call.{begins, reads, writes, withdraws, sweeps}
use Rattle.stream.specs.declared.answers.Answer.{Answer}
use Rattle.stream.specs.declared.answers.Answer.TheVariants as answer

-- a book, a row and the count of a policy
pub record State (V S : Type 0) : Type 0 where
  pub book : Book
  pub row : List V
  pub count : S

abbrev pub state : {V S : Type 0} → Book → List V → S → State V S
state b row s = record { book = b; row = row; count = s }

module _ {V S : Type 0} (k : Kind V) (p : Policy S) where
  -- what a command is answered
  abbrev pub answer_to : State V S → Call → Answer V
  answer_to s begins = answer.Begin (begin_answer p s.count s.book)
  answer_to s (reads j e) = answer.Read (read_answer s.book s.row j e)
  answer_to s (writes j order) = answer.Write (write_answer k s.book s.row j order)
  answer_to s (withdraws j) = answer.Withdraw (withdraw_answer s.book j)
  answer_to s sweeps = answer.Sweep (sweep_answer p s.count s.book)

  -- what it leaves
  abbrev pub after_call : State V S → Call → State V S
  after_call s begins = state (begin_book p s.count s.book) s.row (begin_next p s.count s.book)
  after_call s (reads j e) = state (read_book s.book s.row j e) s.row s.count
  after_call s (writes j order) = state (write_book k s.book s.row j order) (write_row k s.book s.row j order) s.count
  after_call s (withdraws j) = state (withdraw_book s.book j) s.row s.count
  after_call s sweeps = state (sweep_book p s.count s.book) s.row (sweep_next p s.count s.book)

  -- what the log is then, where the book was opened with e settings
  abbrev pub log_after : ℕ → State V S → Call → Log V → Log V
  log_after e s begins l = begin_log (begin_answer p s.count s.book) (without (begin_forgets p s.count s.book) l)
  log_after e s (reads j d) l = read_log (read_answer s.book s.row j d) l j d
  log_after e s (writes j order) l = write_log (write_answer k s.book s.row j order) l j (entries_of k e order)
  log_after e s (withdraws j) l = withdraw_log (withdraw_answer s.book j) l j
  log_after e s sweeps l = without (sweep_forgets p s.count s.book) l

  -- from s a command is carried out: it is answered a, and leaves t
  pub record Carries (s : State V S) (c : Call) (a : Answer V) (t : State V S) : Type 0 where
    pub answers : a ≡ answer_to s c
    pub leaves : t ≡ after_call s c
    -- after any run that led to s, the call leads the run on
    pub runs : (b₀ : Book) (row₀ : List V) (l : Log V) → Run k b₀ row₀ s.book s.row l → Run k b₀ row₀ t.book t.row (log_after b₀.settings s c l)
