-- A book as a conflict graph, and its tests by ways in that graph.
use Rattle.std.proofs.Common.{◌≡◌, ℕ, ◌<◌, Bool, true, false, not, ◌&&◌, ◌||◌, T, eqb, ◌↔◌, List, Some, None, filter, Option, refl, subst, inl, inr, T_not}
use lib.Dec.{not_T}
use Rattle.model.specs.Lists.{some_of, among, up_to}
use Rattle.model.specs.Book.{Job, Book, holds, is_held, is_active, is_finished, written_by, read_by, touched_by, held, finished, path, tight_path}
use Rattle.model.specs.Forgetting.{as_strongly, has_stand_in, may_forget}
use Rattle.model.specs.Possible.{Proper, EveryPathIsAWalk}
use Rattle.model.specs.Calls.{read_closes_circle, write_closes_circle}
use Rattle.model.proofs.Tests.{and_l, and_r, and_i, or_e, or_l, or_r, decided, apart, apart_e}
use Rattle.model.proofs.Lists.{some_i, some_e, filter_e, filter_i, among_up_to, among_below}
use Rattle.model.proofs.Walks.{Way, way_map, walk_way, way_walk, joined_way, way_joined}
use Rattle.model.proofs.Graphs.{Graph, TightWay, Active, Formed, way_here, Conflict, Closes}
use Rattle.model.proofs.Invariant.{Covered}
use Rattle.model.proofs.MayForget.{may_forget_e}

-- whether a job wrote a setting (true), or touched it (false)
abbrev pub touch_of : Bool → Option Job → ℕ → Bool
touch_of true o e = holds (λ x. x.has_written e) o
touch_of false o e = holds (λ x. x.has_read e) o || holds (λ x. x.has_written e) o

abbrev pub book_graph : Book → Graph
book_graph b = record {
  arrow = λ u v. T (b.arrow u v);
  here = λ n. T (is_held b n);
  done = λ n. T (is_finished b n);
  mark = λ m n e. T (touch_of m (b.job n) e);
}

pub touched_held : (m : Bool) (o : Option Job) (e : ℕ) → T (touch_of m o e) → T (holds (λ x. true) o)
touched_held true None e t = t
touched_held true (Some x) e t = tt
touched_held false None e t = t
touched_held false (Some x) e t = tt

holds_held : (f : Job → Bool) (o : Option Job) → T (holds f o) → T (holds (λ x. true) o)
holds_held f None t = t
holds_held f (Some x) t = tt

pub finished_held : (b : Book) (n : ℕ) → T (is_finished b n) → T (is_held b n)
finished_held b n t = holds_held (λ x. x.finished) (b.job n) t

pub active_out : (o : Option Job) → T (holds (λ x. not x.finished) o) → T (holds (λ x. true) o) × (T (holds (λ x. x.finished) o) → ⊥)
active_out None t = elim t [ ]
active_out (Some x) t = (tt, T_not x.finished t)

pub active_in : (o : Option Job) → T (holds (λ x. true) o) → (T (holds (λ x. x.finished) o) → ⊥) → T (holds (λ x. not x.finished) o)
active_in None t f = t
active_in (Some x) t f = not_T x.finished f

pub activity : (b : Book) (j : ℕ) → T (is_active b j) → Active (book_graph b) j
activity b j t = active_out (b.job j) t

-- the jobs that a read, and a write, conflicts with

pub conflict_read : (b : Book) (p e : ℕ) → T (written_by b p e) ↔ Conflict (book_graph b) true (λ d. d ≡ e) p
conflict_read b p e = (λ t. (e, refl, t), λ c. subst (λ d. T (written_by b p d)) c.1 c.2)

pub conflict_write : (b : Book) (p : ℕ) (es : List ℕ) → T (some_of (touched_by b p) es) ↔ Conflict (book_graph b) false (λ d. T (among d es)) p
conflict_write b p es = (λ t. some_e (touched_by b p) es t, λ c. some_i (touched_by b p) es c.0 c.1 c.2)

-- the book's tests, by ways in its graph

module _ (b : Book) (P : Proper b) where
  pub listed : (f : ℕ → Bool) (n : ℕ) → T (is_held b n) → T (f n) → T (among n (filter f (up_to b.last)))
  listed f n i t = let r = P.ranged n i in filter_i f (up_to b.last) n (among_up_to b.last n r.0 r.1) t

  pub tight_path_in : {p q : ℕ} → TightWay (book_graph b) p q → T (tight_path b p q)
  tight_path_in {p} {q} w = way_joined b.arrow (finished b) p q (way_map (λ u v a. a) (λ n t. listed (is_finished b) n (finished_held b n t) t) w)

  pub tight_path_out : {p q : ℕ} → T (tight_path b p q) → TightWay (book_graph b) p q
  tight_path_out {p} {q} t = way_map (λ u v a. a) (λ n t. (filter_e (is_finished b) (up_to b.last) n t).1) (joined_way b.arrow (finished b) p q t)

  pub path_in : {p q : ℕ} → Way (λ u v. T (b.arrow u v)) (λ n. T (is_held b n)) p q → T (path b p q)
  path_in {p} {q} w = way_joined b.arrow (held b) p q (way_map (λ u v a. a) (λ n t. listed (is_held b) n t t) w)

  pub path_out : {p q : ℕ} → T (path b p q) → Way (λ u v. T (b.arrow u v)) (λ n. T (is_held b n)) p q
  path_out {p} {q} t = way_map (λ u v a. a) (λ n t. (filter_e (is_held b) (up_to b.last) n t).1) (joined_way b.arrow (held b) p q t)

  pub formed : Formed (book_graph b)
  formed = record {
    arrow_here = P.ends;
    done_here = finished_held b;
    mark_here = λ m n e. touched_held m (b.job n) e;
    done_cases = λ n. decided (is_finished b n);
  }

  -- the test of a closing step, with K for the conflict
  closing : (m : Bool) (E : ℕ → Type 0) (j : ℕ) (K : ℕ → Bool) → ((k : ℕ) → T (K k) ↔ Conflict (book_graph b) m E k)
      → T (some_of (λ k. not (eqb k j) && (K k && path b j k)) (held b)) ↔ Closes (book_graph b) m E j
  closing m E j K is = (
    λ t.
        let r = some_e (λ k. not (eqb k j) && (K k && path b j k)) (held b) t in
        let c = and_r (not (eqb r.0 j)) (K r.0 && path b j r.0) r.2 in (
          r.0,
          apart_e _ _ (and_l (not (eqb r.0 j)) (K r.0 && path b j r.0) r.2),
          (is r.0).0 (and_l (K r.0) (path b j r.0) c),
          way_map (λ u v a. a) (λ n t. tt) (path_out (and_r (K r.0) (path b j r.0) c)),
        ),
    λ w.
        let k = w.0 in
        let i = touched_held m (b.job k) w.2.0 w.2.2 in
        some_i (λ k. not (eqb k j) && (K k && path b j k)) (held b) k (listed (is_held b) k i i)
        (and_i (not (eqb k j)) (K k && path b j k) (apart _ _ w.1) (and_i (K k) (path b j k) ((is k).1 w.2) (path_in (way_here formed w.3)))),
  )

  -- the tests of a read and of a write that close a circle are exact
  pub read_closes : (j e : ℕ) → T (read_closes_circle b j e) ↔ Closes (book_graph b) true (λ d. d ≡ e) j
  read_closes j e = closing true (λ d. d ≡ e) j (λ k. written_by b k e) (λ k. conflict_read b k e)

  pub write_closes : (j : ℕ) (es : List ℕ) → T (write_closes_circle b j es) ↔ Closes (book_graph b) false (λ d. T (among d es)) j
  write_closes j es = closing false (λ d. T (among d es)) j (λ k. some_of (touched_by b k) es) (λ k. conflict_write b k es)

  -- a job that may be forgotten has a stand-in wherever it is reached
  pub cover : (i : ℕ) → ((e : ℕ) → T (touched_by b i e) → e < b.settings) → T (may_forget b i) → Covered (book_graph b) i
  cover i fits t a m e α w s = pack (some_e (λ k. not (eqb k i) && (tight_path b a k && as_strongly b k i e)) (finished b) found)
    where
      touched : (m : Bool) → T (touch_of m (b.job i) e) → T (touched_by b i e)
      touched true r = or_r (read_by b i e) (written_by b i e) r
      touched false r = r

      found : T (has_stand_in b i a e)
      found = may_forget_e b i t a (listed (is_active b) a α.0 (active_in (b.job a) α.0 α.1)) (tight_path_in w) e (among_below b.settings e (fits e (touched m s))) (touched m s)

      as_strong : (k : ℕ) (m : Bool) → T (touch_of m (b.job i) e) → T (as_strongly b k i e) → T (touch_of m (b.job k) e)
      as_strong k true r c = elim (or_e (written_by b k e) (not (written_by b i e) && read_by b k e) c) [
        | inl x ↦ x
        | inr x ↦ absurd (T_not (written_by b i e) (and_l (not (written_by b i e)) (read_by b k e) x) r)
      ]
      as_strong k false r c = elim (or_e (written_by b k e) (not (written_by b i e) && read_by b k e) c) [
        | inl x ↦ or_r (read_by b k e) (written_by b k e) x
        | inr x ↦ or_l (read_by b k e) (written_by b k e) (and_r (not (written_by b i e)) (read_by b k e) x)
      ]

      pack : (k : ℕ) × T (among k (finished b)) × T (not (eqb k i) && (tight_path b a k && as_strongly b k i e))
          → (k : ℕ) × (k ≡ i → ⊥) × T (is_finished b k) × TightWay (book_graph b) a k × T (touch_of m (b.job k) e)
      pack (k, f, c) =
          let r = and_r (not (eqb k i)) (tight_path b a k && as_strongly b k i e) c in (
            k,
            apart_e _ _ (and_l (not (eqb k i)) (tight_path b a k && as_strongly b k i e) c),
            (filter_e (is_finished b) (up_to b.last) k f).1,
            tight_path_out (and_l (tight_path b a k) (as_strongly b k i e) r),
            as_strong k m s (and_r (tight_path b a k) (as_strongly b k i e) r),
          )

-- paths are walks
pub paths_exact : EveryPathIsAWalk
paths_exact b h p q = record {
  any = (λ t. way_walk (way_map (λ u v a. a) (λ n x. tt) (path_out b P t)), λ w. path_in b P (way_here (formed b P) (walk_way w)));
  tight = (λ t. way_walk (tight_path_out b P t), λ w. tight_path_in b P (walk_way w));
}
  where
    P : Proper b
    P = h.proper
