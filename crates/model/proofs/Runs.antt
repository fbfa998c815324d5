-- What every run keeps between its book, its row and its log.
use Rattle.std.proofs.Common.{◌≡◌, ℕ, ◌+◌, ◌<◌, Bool, true, false, cond, not, T, eqb, ◌⊎◌, ◌↔◌, List, [], ◌∷◌, length, Some, Ok, Err, Result, sym, refl, ap, ◌∙◌, subst, inl, inr, eqb→eq, T_not}
use lib.Dec.{not_T}
use Rattle.std.specs.List.{slice_get}
use Rattle.model.specs.declared.refusals.Refusal.{Refusal}
use Rattle.model.specs.declared.refusals.Refusal.TheVariants.{NotActive}
use Rattle.model.specs.Refusals.{cuts_off}
use Rattle.model.specs.Lists.{among}
use Rattle.model.specs.Kinds.{Kind}
use Rattle.model.specs.Conflicts.{Step, by, is_write, of_job, finishes}
use Rattle.model.specs.Conflicts.Step.{reads, writes}
use Rattle.model.specs.Book.{Book, holds, is_held, is_active, removed}
use Rattle.model.specs.Possible.{Possible}
use Rattle.model.specs.Calls.{named, new_book, with_read, with_write, read_closes_circle, write_closes_circle, read_answer, write_answer, entries_of, after_step, put_all}
use Rattle.model.specs.Sweeps.{Sweeps}
use Rattle.model.specs.Sweeps.Sweeps.{none_more, then_more}
use Rattle.model.specs.Begin.{with_new_job, begin_answer_on}
use Rattle.model.specs.Runs.{Log, Run, without, with_step, erased, begin_log, read_log, write_log, withdraw_log}
use Rattle.model.specs.Runs.Run.{start, begin, sweep, read, write, withdraw}
use Rattle.model.specs.Serial.{Executes}
use Rattle.model.specs.Serial.Executes.{none_left}
use Rattle.model.specs.Laws.{Agrees}
use Rattle.model.proofs.Tests.{and_i, apart, apart_e, some_cases, some_left, some_last, eqb_of}
use Rattle.model.proofs.Lists.{member_some, filter_e, filter_i}
use Rattle.model.proofs.LogGraph.{others, log_read, log_erased}
use Rattle.model.proofs.BookGraph.{activity, active_in}
use Rattle.model.proofs.Changes.{book_read, book_write, book_removed, book_new_job}
use Rattle.model.proofs.Possible.{fresh, was_held}
use Rattle.model.proofs.States.{State, at_start, after_read, after_write, after_removal, after_forgetting, after_begin}
use Rattle.model.proofs.Sweeps.{swept_settings, swept_limit, swept_last, swept_job, swept_left}
use Rattle.model.proofs.Answers.{BeginSaid, begin_said, ReadSaid, read_said, WriteSaid, write_said}
use Rattle.model.proofs.Begin.{begin_swept_is, begun_possible}
use Rattle.model.proofs.EveryOrder.{length_put, executes_end, executes_filter}

-- the book c holds what b holds, and j
abbrev HoldsToo : Book → ℕ → Book → Type 0
HoldsToo b j c = (n : ℕ) → (T (is_held b n) ⊎ (n ≡ j)) ↔ T (is_held c n)

module _ {V : Type 0} where
  pub record Kept (b₀ : Book) (row₀ : List V) (b : Book) (row : List V) (l : Log V) : Type 0 where
    pub state : State b l.steps
    -- the log, executed from the first row, gives the row
    pub executed : Executes row₀ l.steps row
    -- no write is accepted on a row of another length
    pub row_fits : (n : ℕ) → T (finishes l.steps n) → length row ≡ b.settings
    pub settings_stand : b.settings ≡ b₀.settings
    pub limit_stands : b.limit ≡ b₀.limit
    pub row_stands : length row ≡ length row₀
    pub held_in_log : (n : ℕ) → T (is_held b n) → T (among n l.held)
    pub held_in_book : (n : ℕ) → T (among n l.held) → T (is_held b n)

  -- the book and the log agree

  unfinished : {b : Book} {h : List (Step V)} → State b h → (j : ℕ) → T (is_active b j) → T (finishes h j) → ⊥
  unfinished {b} s j act d = let α = activity b j act in α.1 (s.inv.done_out j α.0 d)

  pub agreement : {b₀ : Book} {row₀ : List V} {b : Book} {row : List V} {l : Log V} → Kept b₀ row₀ b row l → Agrees b₀ row₀ b row l
  agreement {b = b} s = record {
    settings_stand = s.settings_stand;
    limit_stands = s.limit_stands;
    row_stands = s.row_stands;
    held_agree = λ n. (s.held_in_log n, s.held_in_book n);
    active_agree = λ n. (
      λ t. (s.held_in_log n (activity b n t).0, unfinished s.state n t),
      λ t. active_in (b.job n) (s.held_in_book n t.0) (λ d. t.1 (s.state.inv.done_in n d)),
    );
  }

  swept_state : {b c : Book} {ns : List ℕ} {h : List (Step V)} → Sweeps b ns c → State b h → State c h
  swept_state none_more s = s
  swept_state (then_more {n = n} t w) s = swept_state w (after_forgetting n s t)

  module _ {b₀ : Book} {row₀ : List V} where
    -- sweeps

    kept_swept : {row : List V} {b c : Book} {l : Log V} {ns : List ℕ} → Sweeps b ns c → Kept b₀ row₀ b row l → Kept b₀ row₀ c row (without ns l)
    kept_swept {b = b} {c = c} {l = l} {ns = ns} w s = record {
      state = swept_state w s.state;
      executed = s.executed;
      row_fits = λ n t. s.row_fits n t ∙ sym (swept_settings w);
      settings_stand = swept_settings w ∙ s.settings_stand;
      limit_stands = swept_limit w ∙ s.limit_stands;
      row_stands = s.row_stands;
      held_in_log = λ n t. let r = swept_left w (λ x. true) n t in filter_i (λ m. not (among m ns)) l.held n (s.held_in_log n r.0) (not_T (among n ns) r.1);
      held_in_book = λ n t.
          let r = filter_e (λ m. not (among m ns)) l.held n t in
          subst (λ o. T (holds (λ x. true) o)) (sym (swept_job w n (T_not (among n ns) r.1))) (s.held_in_book n r.0);
    }

    -- a new job

    kept_new_job : {row : List V} {b : Book} {l : Log V} (n : ℕ) → n ≡ b.last + 1 → Possible (with_new_job b) → Kept b₀ row₀ b row l
        → Kept b₀ row₀ (with_new_job b) row (begin_log (Ok n) l)
    kept_new_job {b = b} {l = l} n at p s = record {
      state = after_begin s.state p;
      executed = s.executed;
      row_fits = s.row_fits;
      settings_stand = s.settings_stand;
      limit_stands = s.limit_stands;
      row_stands = s.row_stands;
      held_in_log = λ m t. elim ((here m).1 t) [ inl r ↦ some_left (eqb m) l.held (n ∷ []) (s.held_in_log m r) | inr e ↦ some_last (eqb m) l.held n (eqb_of m n (e ∙ sym at)) ];
      held_in_book = λ m t. (here m).0 (elim (some_cases (eqb m) l.held n t) [ inl r ↦ inl (s.held_in_book m r) | inr r ↦ inr (eqb→eq m n r ∙ at) ]);
    }
      where
        here : HoldsToo b (b.last + 1) (with_new_job b)
        here = (book_new_job b (fresh b s.state.possible.proper)).here_is

    -- a job ends with a step that is cut off, or with a withdrawal

    kept_removed : {row : List V} {b : Book} {l : Log V} (j : ℕ) → T (is_active b j) → Kept b₀ row₀ b row l → Kept b₀ row₀ (removed b j) row (erased l j)
    kept_removed {row} {b} {l} j act s = record {
      state = after_removal j s.state act;
      executed = executes_filter (others j) l.steps row₀ row
          (λ t i w. not_T (eqb (by t) j) (λ e. unfinished s.state j act (member_some (of_job is_write j) i (and_i (eqb (by t) j) (is_write t) e w)))) s.executed;
      row_fits = λ n t. s.row_fits n (((log_erased l.steps j).done_is n).1 t).0;
      settings_stand = s.settings_stand;
      limit_stands = s.limit_stands;
      row_stands = s.row_stands;
      held_in_log = λ n t. let r = ((book_removed b j).here_is n).1 t in filter_i (λ m. not (eqb m j)) l.held n (s.held_in_log n r.0) (apart n j r.1);
      held_in_book = λ n t.
          let r = filter_e (λ m. not (eqb m j)) l.held n t in
          ((book_removed b j).here_is n).0 (s.held_in_book n r.0, apart_e n j r.1);
    }

    kept_refused : {row : List V} {b : Book} {l : Log V} (j : ℕ) (c : Bool) → (T c → T (is_active b j)) → Kept b₀ row₀ b row l
        → Kept b₀ row₀ (cond c (removed b j) b) row (cond c (erased l j) l)
    kept_refused j true f s = kept_removed j (f tt) s
    kept_refused j false f s = s

    -- accepted steps

    kept_read : {row : List V} {b : Book} {l : Log V} (j e : ℕ) (v : V) → T (is_active b j) → e < b.settings → (T (read_closes_circle b j e) → ⊥)
        → slice_get row e ≡ Some v
        → Kept b₀ row₀ b row l → Kept b₀ row₀ (with_read b j e) row (with_step l (reads j e v))
    kept_read {row} {b} {l} j e v act small still at s = record {
      state = after_read j e v s.state act small still;
      executed = executes_end l.steps (reads j e v) row₀ row row s.executed (at, refl);
      row_fits = λ n t. s.row_fits n (((log_read l.steps j e v).done_is n).1 t);
      settings_stand = s.settings_stand;
      limit_stands = s.limit_stands;
      row_stands = s.row_stands;
      held_in_log = λ n t. s.held_in_log n (was_held b s.state.possible.proper j act n ((here n).1 t));
      held_in_book = λ n t. (here n).0 (inl (s.held_in_book n t));
    }
      where
        here : HoldsToo b j (with_read b j e)
        here = (book_read b j e v (activity b j act).0).here_is

    kept_write : {row : List V} {b : Book} {l : Log V} (j : ℕ) (es : List (ℕ × V)) → T (is_active b j) → ((d : ℕ) → T (among d (named es)) → d < b.settings)
        → (T (write_closes_circle b j (named es)) → ⊥) → length row ≡ b.settings → Kept b₀ row₀ b row l
        → Kept b₀ row₀ (with_write b j (named es)) (put_all row es) (with_step l (writes j es))
    kept_write {row} {b} {l} j es act small still long s = record {
      state = after_write j es s.state act small still;
      executed = executes_end l.steps (writes j es) row₀ row (put_all row es) s.executed refl;
      row_fits = λ n t. length_put row es ∙ long;
      settings_stand = s.settings_stand;
      limit_stands = s.limit_stands;
      row_stands = length_put row es ∙ s.row_stands;
      held_in_log = λ n t. s.held_in_log n (was_held b s.state.possible.proper j act n ((here n).1 t));
      held_in_book = λ n t. (here n).0 (inl (s.held_in_book n t));
    }
      where
        here : HoldsToo b j (with_write b j (named es))
        here = (book_write b j es (activity b j act).0 (λ d. s.state.possible.proper.unwritten j d act)).here_is

  -- along a run

  module _ (k : Kind V) {e a : ℕ} {row₀ : List V} (new : Possible (new_book e a)) where
    pub run_kept : {b : Book} {row : List V} {l : Log V} → Run k (new_book e a) row₀ b row l → Kept (new_book e a) row₀ b row l
    run_kept start = record {
      state = at_start e a new;
      executed = none_left;
      row_fits = λ n t. absurd t;
      settings_stand = refl;
      limit_stands = refl;
      row_stands = refl;
      held_in_log = λ n t. absurd t;
      held_in_book = λ n t. absurd t;
    }
    run_kept (begin {b} {row} {l} c thorough ns r w) = go (begin_answer_on b c) (begin_said b c) (run_kept r)
      where
        go : (x : Result ℕ Refusal) → BeginSaid b c x → Kept (new_book e a) row₀ b row l
            → Kept (new_book e a) row₀ (elim x [ Ok n ↦ with_new_job c | Err y ↦ c ]) row (begin_log x (without ns l))
        go (Ok n) p s = kept_new_job n (p.0 ∙ ap (λ (m : ℕ). m + 1) (sym (swept_last (begin_swept_is thorough b ns c w)))) (begun_possible thorough b ns c s.state.possible w n p) (kept_swept (begin_swept_is thorough b ns c w) s)
        go (Err y) p s = kept_swept (begin_swept_is thorough b ns c w) s
    run_kept (sweep thorough ns r w) = kept_swept w.0 (run_kept r)
    run_kept (read {b} {row} {l} j d r) = go (read_answer b row j d) (read_said b row j d) (run_kept r)
      where
        go : (x : Result V Refusal) → ReadSaid b row j d x → Kept (new_book e a) row₀ b row l
            → Kept (new_book e a) row₀ (after_step x b (with_read b j d) j) row (read_log x l j d)
        go (Ok v) t s = kept_read j d v t.0 t.1 t.2 t.3 s
        go (Err y) t s = kept_refused j (cuts_off y) t s
    run_kept (write {b} {row} {l} j bytes r) = go (run_kept r)
      where
        at : (es : List (ℕ × V)) (x : Result (Unit {0}) Refusal) → WriteSaid b row j es x → Kept (new_book e a) row₀ b row l
            → Kept (new_book e a) row₀ (after_step x b (with_write b j (named es)) j) (elim x [ Ok t ↦ put_all row es | Err y ↦ row ]) (write_log x l j es)
        at es (Ok u) t s = kept_write j es t.0 t.1 t.2 t.3 s
        at es (Err y) t s = kept_refused j (cuts_off y) t s

        go : Kept (new_book e a) row₀ b row l
            → Kept (new_book e a) row₀ (after_step (write_answer k b row j bytes) b (with_write b j (named (entries_of k b.settings bytes))) j)
            (elim (write_answer k b row j bytes) [ Ok t ↦ put_all row (entries_of k b.settings bytes) | Err y ↦ row ]) (write_log (write_answer k b row j bytes) l j (entries_of k e bytes))
        go s = subst (λ (m : ℕ). Kept (new_book e a) row₀ (after_step (write_answer k b row j bytes) b (with_write b j (named (entries_of k b.settings bytes))) j)
            (elim (write_answer k b row j bytes) [ Ok t ↦ put_all row (entries_of k b.settings bytes) | Err y ↦ row ]) (write_log (write_answer k b row j bytes) l j (entries_of k m bytes)))
            s.settings_stand (at (entries_of k b.settings bytes) (write_answer k b row j bytes) (write_said k b row j bytes) s)
    run_kept (withdraw {b} {row} {l} j r) = go (is_active b j) (λ t. t) (run_kept r)
      where
        go : (c : Bool) → (T c → T (is_active b j)) → Kept (new_book e a) row₀ b row l
            → Kept (new_book e a) row₀ (cond c (removed b j) b) row (withdraw_log (cond c (Ok tt) (Err NotActive)) l j)
        go true f s = kept_removed j (f tt) s
        go false f s = s
