-- What a book keeps of the steps of its run, and that each change keeps it.
use Rattle.std.proofs.Common.{◌≡◌, ℕ, ◌+◌, ◌<◌, ◌≤◌, Bool, true, false, T, ◌⊎◌, ◌↔◌, List, [], ◌∷◌, ◌++◌, None, filter, sym, refl, subst, inl, inr, arith}
use Rattle.model.specs.Lists.{among}
use Rattle.model.specs.Conflicts.{Step}
use Rattle.model.specs.Conflicts.Step.{reads, writes}
use Rattle.model.specs.Book.{Book, is_held, is_active, removed, forgotten}
use Rattle.model.specs.Forgetting.{may_forget}
use Rattle.model.specs.Possible.{Possible}
use Rattle.model.specs.Calls.{named, new_book, with_read, with_write, read_closes_circle, write_closes_circle}
use Rattle.model.specs.Begin.{with_new_job}
use Rattle.model.proofs.Graphs.{Same, Active, Closes, stepped, ended, empty, same_refl}
use Rattle.model.proofs.Graphs as Graphs
use Rattle.model.proofs.Invariant.{Inv, inv_same, inv_empty, inv_new_job, inv_without, inv_forgotten, inv_ended}
use Rattle.model.proofs.Closing.{inv_stepped, book_log_closes, log_book_closes}
use Rattle.model.proofs.MayForget.{may_finished}
use Rattle.model.proofs.LogGraph.{log_graph, touch, others, log_read, log_write, log_erased}
use Rattle.model.proofs.BookGraph.{book_graph, touch_of, activity, read_closes, write_closes, cover}
use Rattle.model.proofs.Changes.{book_read, book_write, book_removed, book_forgotten, book_new_job}
use Rattle.model.proofs.Possible.{possible_removed, possible_forgotten, possible_read, possible_write, fresh}

module _ {V : Type 0} where
  -- the book can exist, its graph keeps the log's, and the log names no number that was not given
  pub record State (b : Book) (h : List (Step V)) : Type 0 where
    pub possible : Possible b
    pub inv : Inv (book_graph b) (log_graph h)
    pub known : (n : ℕ) → (log_graph h).here n → n ≤ b.last

  -- the tests of a closing step tell of circles in the log
  pub read_tells : {b : Book} {h : List (Step V)} (j e : ℕ) → State b h → T (is_active b j)
      → T (read_closes_circle b j e) ↔ Closes (log_graph h) true (λ d. d ≡ e) j
  read_tells {b} {h} j e s act =
      let r = read_closes b s.possible.proper j e in
      (λ t. book_log_closes true (λ d. d ≡ e) j s.inv (r.0 t), λ c. r.1 (log_book_closes true (λ d. d ≡ e) j s.inv (activity b j act) c))

  pub write_tells : {b : Book} {h : List (Step V)} (j : ℕ) (es : List ℕ) → State b h → T (is_active b j)
      → T (write_closes_circle b j es) ↔ Closes (log_graph h) false (λ d. T (among d es)) j
  write_tells {b} {h} j es s act =
      let r = write_closes b s.possible.proper j es in
      (λ t. book_log_closes false (λ d. T (among d es)) j s.inv (r.0 t), λ c. r.1 (log_book_closes false (λ d. T (among d es)) j s.inv (activity b j act) c))

  -- each change

  pub at_start : (e a : ℕ) → Possible (new_book e a) → State (new_book e a) []
  at_start e a p = record { possible = p; inv = inv_same blank (same_refl empty) inv_empty; known = λ n t. absurd t }
    where
      unmarked : (m : Bool) (d : ℕ) → T (touch_of m None d) → ⊥
      unmarked true d t = t
      unmarked false d t = t

      blank : Same empty (book_graph (new_book e a))
      blank = record { arrow_is = λ u v. (λ t. t, λ t. t); here_is = λ n. (λ t. t, λ t. t); done_is = λ n. (λ t. t, λ t. t); mark_is = λ m n d. (λ t. absurd t, unmarked m d) }

  pub after_read : {b : Book} {h : List (Step V)} (j e : ℕ) (v : V) → State b h → T (is_active b j) → e < b.settings → (T (read_closes_circle b j e) → ⊥)
      → State (with_read b j e) (h ++ (reads j e v ∷ []))
  after_read {b} {h} j e v s act small still = record {
    possible = possible_read b j e s.possible act small still;
    inv = inv_same (book_read b j e v α.0) (log_read h j e v)
        (inv_stepped true (λ d. d ≡ e) (λ m d. T (touch m (reads j e v) d)) j α (λ c. still ((read_tells j e s act).1 c)) s.inv);
    known = λ n t. knows n (((log_read h j e v).here_is n).1 t);
  }
    where
      α : Active (book_graph b) j
      α = activity b j act

      knows : (n : ℕ) → (log_graph h).here n ⊎ (n ≡ j) → n ≤ b.last
      knows n (inl t) = s.known n t
      knows n (inr i) = (s.possible.proper.ranged n (subst (λ x. T (is_held b x)) (sym i) α.0)).1

  pub after_write : {b : Book} {h : List (Step V)} (j : ℕ) (es : List (ℕ × V)) → State b h → T (is_active b j) → ((d : ℕ) → T (among d (named es)) → d < b.settings)
      → (T (write_closes_circle b j (named es)) → ⊥) → State (with_write b j (named es)) (h ++ (writes j es ∷ []))
  after_write {b} {h} j es s act small still = record {
    possible = possible_write b j es s.possible act small still;
    inv = inv_same (book_write b j es α.0 (λ d. s.possible.proper.unwritten j d act)) log_is
        (inv_ended j (inl α.0, α.1) (inr refl)
        (inv_stepped false (λ d. T (among d (named es))) (λ m d. T (touch m (writes j es) d)) j α (λ c. still ((write_tells j (named es) s act).1 c)) s.inv));
    known = λ n t. knows n ((log_is.here_is n).1 t);
  }
    where
      α : Active (book_graph b) j
      α = activity b j act

      log_is : Same (ended (stepped (log_graph h) false (λ d. T (among d (named es))) (λ m d. T (touch m (writes j es) d)) j) j) (log_graph (h ++ (writes j es ∷ [])))
      log_is = log_write h j es

      knows : (n : ℕ) → (log_graph h).here n ⊎ (n ≡ j) → n ≤ b.last
      knows n (inl t) = s.known n t
      knows n (inr i) = (s.possible.proper.ranged n (subst (λ x. T (is_held b x)) (sym i) α.0)).1

  pub after_removal : {b : Book} {h : List (Step V)} (j : ℕ) → State b h → T (is_active b j) → State (removed b j) (filter (others j) h)
  after_removal {b} {h} j s act = record {
    possible = possible_removed b j s.possible;
    inv = inv_same (book_removed b j) (log_erased h j) (inv_without j (activity b j act) s.inv);
    known = λ n t. s.known n (((log_erased h j).here_is n).1 t).0;
  }

  pub after_forgetting : {b : Book} {h : List (Step V)} (i : ℕ) → State b h → T (may_forget b i) → State (forgotten b i) h
  after_forgetting {b} {h} i s t = record {
    possible = possible_forgotten b i s.possible;
    inv = inv_same (book_forgotten b i) (same_refl (log_graph h))
        (inv_forgotten i (may_finished b i t) (cover b s.possible.proper i (s.possible.touched_fit i) t) s.inv);
    known = s.known;
  }

  pub after_begin : {b : Book} {h : List (Step V)} → State b h → Possible (with_new_job b) → State (with_new_job b) h
  after_begin {b} {h} s p = record {
    possible = p;
    inv = inv_same book (same_refl (log_graph h)) (inv_new_job (b.last + 1) (λ t. let k = s.known (b.last + 1) t in omega arith) s.inv);
    known = λ n t. let k = s.known n t in omega arith;
  }
    where
      book : Same (Graphs.with_new_job (book_graph b) (b.last + 1)) (book_graph (with_new_job b))
      book = book_new_job b (fresh b s.possible.proper)
