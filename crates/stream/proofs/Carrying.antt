-- One command carried out, by what the call of the book promises.
use Rattle.std.proofs.Common.{◌≡◌, ℕ, List, Result, sym, ap, subst}
use Rattle.model.specs.declared.refusals.Refusal.{Refusal}
use Rattle.model.specs.Kinds.{Kind}
use Rattle.model.specs.Book.{Book}
use Rattle.model.specs.Calls.{read_answer, read_book, write_answer, write_book, write_row, withdraw_answer, withdraw_book}
use Rattle.model.specs.Policies.{Policy}
use Rattle.model.specs.Sweeps.{sweep_answer, sweep_forgets, sweep_next, sweep_book, SweepExact}
use Rattle.model.specs.Begin.{begin_answer, begin_forgets, begin_next, begin_swept, begin_book, BeginExact}
use Rattle.model.specs.Runs.{Log, Run}
use Rattle.model.specs.Runs.Run.{begin, sweep, read, write, withdraw}
use Rattle.commands.specs.Calls.{Call}
use Rattle.commands.specs.Calls.Call.{begins, reads, writes, withdraws, sweeps}
use Rattle.stream.specs.declared.answers.Answer.{Answer}
use Rattle.stream.specs.declared.answers.Answer.TheVariants as answer
use Rattle.stream.specs.States.{State, state, answer_to, after_call, log_after, Carries}

module _ {V S : Type 0} (k : Kind V) (p : Policy S) where
  -- the parts of a state
  state_same : (b c : Book) (row after : List V) (s t : S) → b ≡ c → row ≡ after → s ≡ t → state b row s ≡ state c after t
  state_same b c row after s t e f h = λ i. state (e i) (f i) (h i)

  -- of the same command, by another name
  pub carries_same : (s : State V S) (c d : Call) (a : Answer V) (t : State V S) → c ≡ d → Carries k p s c a t → Carries k p s d a t
  carries_same s c d a t e x = subst (λ (n : Call). Carries k p s n a t) e x

  -- each call that leaves what it should carries its command out, if it leads a run on
  carries : (s : State V S) (c : Call) (a : Answer V) (t : State V S) → a ≡ answer_to k p s c → t ≡ after_call k p s c
      → ((b₀ : Book) (row₀ : List V) (l : Log V) → Run k b₀ row₀ s.book s.row l → Run k b₀ row₀ (after_call k p s c).book (after_call k p s c).row (log_after k p b₀.settings s c l))
      → Carries k p s c a t
  carries s c a t e f r =
      record {
        answers = e;
        leaves = f;
        runs = λ b₀ row₀ l run. subst (λ (x : State V S). Run k b₀ row₀ x.book x.row (log_after k p b₀.settings s c l)) (sym f) (r b₀ row₀ l run);
      }

  module _ (b c : Book) (row after : List V) (s t : S) where
    pub carries_begin : (r : Result ℕ Refusal) → r ≡ begin_answer p s b → c ≡ begin_book p s b → after ≡ row → t ≡ begin_next p s b → BeginExact p s b
        → Carries k p (state b row s) begins (answer.Begin r) (state c after t)
    carries_begin r e f h n x =
        carries (state b row s) begins _ _ (ap answer.Begin e) (state_same _ _ _ _ _ _ f h n)
        (λ b₀ row₀ l run. begin (begin_swept p s b) (p.thorough s) (begin_forgets p s b) run x.swept)

    pub carries_sweep : (n : ℕ) → n ≡ sweep_answer p s b → c ≡ sweep_book p s b → after ≡ row → t ≡ sweep_next p s b → SweepExact p s b
        → Carries k p (state b row s) sweeps (answer.Sweep n) (state c after t)
    carries_sweep n e f h m x =
        carries (state b row s) sweeps _ _ (ap answer.Sweep e) (state_same _ _ _ _ _ _ f h m)
        (λ b₀ row₀ l run. sweep (p.thorough s) (sweep_forgets p s b) run x.swept)

    pub carries_read : (j d : ℕ) (r : Result V Refusal) → r ≡ read_answer b row j d → c ≡ read_book b row j d → after ≡ row → t ≡ s
        → Carries k p (state b row s) (reads j d) (answer.Read r) (state c after t)
    carries_read j d r e f h m =
        carries (state b row s) (reads j d) _ _ (ap answer.Read e) (state_same _ _ _ _ _ _ f h m) (λ b₀ row₀ l run. read j d run)

    pub carries_write : (j : ℕ) (order : List ℕ) (r : Result (Unit {0}) Refusal) → r ≡ write_answer k b row j order → c ≡ write_book k b row j order → after ≡ write_row k b row j order → t ≡ s
        → Carries k p (state b row s) (writes j order) (answer.Write r) (state c after t)
    carries_write j order r e f h m =
        carries (state b row s) (writes j order) _ _ (ap answer.Write e) (state_same _ _ _ _ _ _ f h m) (λ b₀ row₀ l run. write j order run)

    pub carries_withdraw : (j : ℕ) (r : Result (Unit {0}) Refusal) → r ≡ withdraw_answer b j → c ≡ withdraw_book b j → after ≡ row → t ≡ s
        → Carries k p (state b row s) (withdraws j) (answer.Withdraw r) (state c after t)
    carries_withdraw j r e f h m =
        carries (state b row s) (withdraws j) _ _ (ap answer.Withdraw e) (state_same _ _ _ _ _ _ f h m) (λ b₀ row₀ l run. withdraw j run)
