-- A new book can exist, and each change of a book that calls make leads from a book that can exist to one.
use Rattle.std.proofs.Common.{◌≡◌, ℕ, suc, ◌+◌, ◌<◌, ◌≤◌, Bool, true, false, not, T, ◌⊎◌, List, length, filter, Option, sym, refl, ap, subst, inl, inr, arith, le→leb, eqb→eq}
use Rattle.graph.specs.Walk.{Walk, anywhere}
use Rattle.graph.specs.Walk.Walk.{one, more}
use Rattle.model.specs.Lists.{among, up_to}
use Rattle.model.specs.Conflicts.Step.{reads, writes}
use Rattle.model.specs.Book.{Job, Book, places, last_number, most_settings, most_active, holds, is_held, is_active, read_by, written_by, touched_by, held, active, jobs_that, removed, forgotten}
use Rattle.model.specs.Possible.{Proper, Possible}
use Rattle.model.specs.Calls.{new_book, with_read, with_write, read_closes_circle, write_closes_circle, named}
use Rattle.model.specs.Begin.{limit_reached, numbers_spent, is_full, with_new_job}
use Rattle.model.proofs.Tests.{or_e, or_l, or_r, eqb_of}
use Rattle.model.proofs.Lists.{filter_fewer, filter_last}
use Rattle.model.proofs.First.{up_to_le}
use Rattle.model.proofs.Walks.{Way, way_bind, way_map, Arrow, walk_way, way_walk}
use Rattle.model.proofs.Walks.Way.{last, next}
use Rattle.model.proofs.Graphs.{Same, Closes, stepped, ended, formed_same, formed_new_job, formed_without, formed_bypassed, formed_stepped, formed_ended}
use Rattle.model.proofs.Closing.{circle_closes}
use Rattle.model.proofs.LogGraph.{touch, entry_named}
use Rattle.model.proofs.BookGraph.{book_graph, touched_held, active_in, active_out, activity, formed, read_closes, write_closes}
use Rattle.model.proofs.Changes.{book_read, book_write, book_removed, book_forgotten, book_new_job, gone_e, new_job_apart}

-- how many jobs pass a test

pub fewer : (f : Job → Bool) (b c : Book) → c.last ≡ b.last → ((n : ℕ) → T (holds f (c.job n)) → T (holds f (b.job n)))
    → length (jobs_that f c) ≤ length (jobs_that f b)
fewer f b c e h =
    let all : length (jobs_that f c) ≤ length (filter (λ n. holds f (b.job n)) (up_to c.last)) = filter_fewer (λ n. holds f (b.job n)) (λ n. holds f (c.job n)) (up_to c.last) (λ n i. h n) in
    let same : length (filter (λ n. holds f (b.job n)) (up_to c.last)) ≡ length (jobs_that f b) = ap (λ (m : ℕ). length (filter (λ n. holds f (b.job n)) (up_to m))) e in
    omega arith

one_more : (f : Job → Bool) (b : Book) → length (jobs_that f (with_new_job b)) ≤ length (jobs_that f b) + 1
one_more f b =
    let m : ℕ = b.last in
    let new : ℕ → Bool = λ n. holds f ((with_new_job b).job n) in
    let next : m + 1 ≡ suc m = omega arith in
    let same : length (filter new (up_to (m + 1))) ≡ length (filter new (up_to (suc m))) = ap (λ (i : ℕ). length (filter new (up_to i))) next in
    let all : length (filter new (up_to (suc m))) ≤ length (filter new (up_to m)) + 1 = filter_last new (up_to m) (suc m) in
    let old : length (filter new (up_to m)) ≤ length (jobs_that f b) = filter_fewer (λ n. holds f (b.job n)) new (up_to m) (λ n i t.
    subst (λ o. T (holds f o)) (new_job_apart b n (λ e. let low : n ≤ m = up_to_le m n i in omega arith)) t) in
    omega arith

-- a new book

pub possible_new : (e a : ℕ) → (1 ≤ e) × (e ≤ most_settings) → (1 ≤ a) × (a ≤ most_active) → Possible (new_book e a)
possible_new e a E A = record {
  proper = record { ranged = λ n t. absurd t; ends = λ p q t. absurd t; acyclic = λ u w. none w; unwritten = λ n d t. absurd t };
  settings_fit = E;
  limit_fits = A;
  numbers_fit = omega arith;
  held_fit = omega arith;
  active_fit = omega arith;
  touched_fit = λ n d t. absurd t;
}
  where
    none : {u v : ℕ} → Walk (λ p q. false) anywhere u v → ⊥
    none (one t) = t
    none (more t i w) = t

-- a job is removed or forgotten

pub proper_removed : (b : Book) (n : ℕ) → Proper b → Proper (removed b n)
proper_removed b n P = record {
  ranged = λ m t. P.ranged m (gone_e (λ x. true) b n m t).0;
  ends = (formed_same (book_removed b n) (formed_without n (formed b P))).arrow_here;
  acyclic = λ u w. P.acyclic u (way_walk (way_map (λ p q t. (((book_removed b n).arrow_is p q).1 t).0) (λ m t. t) (walk_way w)));
  unwritten = λ m e a t. P.unwritten m e (gone_e (λ x. not x.finished) b n m a).0 (gone_e (λ x. x.has_written e) b n m t).0;
}

-- an arrow after a job is forgotten was an arrow, or two through that job
pub forgotten_way : (b : Book) (n : ℕ) (I : ℕ → Type 0) → I n → (p q : ℕ) → T ((forgotten b n).arrow p q) → Way (Arrow b.arrow) I p q
forgotten_way b n I i p q t = elim (((book_forgotten b n).arrow_is p q).1 t).0 [ inl a ↦ last a | inr a ↦ next a.0 i (last a.1) ]

pub proper_forgotten : (b : Book) (n : ℕ) → Proper b → Proper (forgotten b n)
proper_forgotten b n P = record {
  ranged = λ m t. P.ranged m (gone_e (λ x. true) b n m t).0;
  ends = (formed_same (book_forgotten b n) (formed_bypassed n (formed b P))).arrow_here;
  acyclic = λ u w. P.acyclic u (way_walk (way_bind (forgotten_way b n (λ m. Unit {0}) tt) (λ m t. t) (walk_way w)));
  unwritten = λ m e a t. P.unwritten m e (gone_e (λ x. not x.finished) b n m a).0 (gone_e (λ x. x.has_written e) b n m t).0;
}

-- the bounds hold still where a job is gone
gone : (b c : Book) (n : ℕ) → c.settings ≡ b.settings → c.limit ≡ b.limit → c.last ≡ b.last → c.job ≡ (removed b n).job → Proper c → Possible b → Possible c
gone b c n s l e j P h = record {
  proper = P;
  settings_fit = let old = h.settings_fit in (omega arith, omega arith);
  limit_fits = let old = h.limit_fits in (omega arith, omega arith);
  numbers_fit = let old = h.numbers_fit in omega arith;
  held_fit = let less = fewer (λ x. true) b c e (back (λ x. true)) in let old = h.held_fit in omega arith;
  active_fit = let less = fewer (λ x. not x.finished) b c e (back (λ x. not x.finished)) in let old = h.active_fit in omega arith;
  touched_fit = λ m d t. subst (λ x. d < x) (sym s) (h.touched_fit m d (touched m d (or_e (holds (λ x. x.has_read d) (c.job m)) (holds (λ x. x.has_written d) (c.job m)) t)));
}
  where
    back : (f : Job → Bool) (m : ℕ) → T (holds f (c.job m)) → T (holds f (b.job m))
    back f m t = (gone_e f b n m (subst (λ (g : ℕ → Option Job). T (holds f (g m))) j t)).0

    touched : (m d : ℕ) → T (holds (λ x. x.has_read d) (c.job m)) ⊎ T (holds (λ x. x.has_written d) (c.job m)) → T (touched_by b m d)
    touched m d (inl t) = or_l (read_by b m d) (written_by b m d) (back (λ x. x.has_read d) m t)
    touched m d (inr t) = or_r (read_by b m d) (written_by b m d) (back (λ x. x.has_written d) m t)

pub possible_removed : (b : Book) (n : ℕ) → Possible b → Possible (removed b n)
possible_removed b n h = gone b (removed b n) n refl refl refl refl (proper_removed b n h.proper) h

pub possible_forgotten : (b : Book) (n : ℕ) → Possible b → Possible (forgotten b n)
possible_forgotten b n h = gone b (forgotten b n) n refl refl refl refl (proper_forgotten b n h.proper) h

-- a new job

pub fresh : (b : Book) → Proper b → T (is_held b (b.last + 1)) → ⊥
fresh b P t = let r = (P.ranged (b.last + 1) t).1 in omega arith

pub possible_new_job : (b : Book) → Possible b → (T (limit_reached b) → ⊥) → (T (numbers_spent b) → ⊥) → (T (is_full b) → ⊥) → Possible (with_new_job b)
possible_new_job b h few left room = record {
  proper = record {
    ranged = λ n t. ranges n ((same.here_is n).1 t);
    ends = (formed_same same (formed_new_job (b.last + 1) (formed b P))).arrow_here;
    acyclic = P.acyclic;
    unwritten = λ n d a t.
        let w : T (written_by b n d) = (same.mark_is true n d).1 t in
        let i = active_out ((with_new_job b).job n) a in
        P.unwritten n d (active_in (b.job n) (touched_held true (b.job n) d w) (λ f. i.1 ((same.done_is n).0 f))) w;
  };
  settings_fit = h.settings_fit;
  limit_fits = h.limit_fits;
  numbers_fit = let old = h.numbers_fit in let apart : b.last ≡ last_number → ⊥ = λ e. left (eqb_of b.last last_number e) in omega arith;
  held_fit = let more = one_more (λ x. true) b in let old = h.held_fit in let apart : length (held b) ≡ places → ⊥ = λ e. room (eqb_of (length (held b)) places e) in omega arith;
  active_fit = let more = one_more (λ x. not x.finished) b in let apart : b.limit ≤ length (active b) → ⊥ = λ e. few (le→leb b.limit (length (active b)) e) in omega arith;
  touched_fit = λ n d t. h.touched_fit n d ((same.mark_is false n d).1 t);
}
  where
    P : Proper b
    P = h.proper

    same : Same (Rattle.model.proofs.Graphs.with_new_job (book_graph b) (b.last + 1)) (book_graph (with_new_job b))
    same = book_new_job b (fresh b P)

    ranges : (n : ℕ) → T (is_held b n) ⊎ (n ≡ b.last + 1) → (1 ≤ n) × (n ≤ b.last + 1)
    ranges n (inl t) = let r = P.ranged n t in (r.0, omega arith)
    ranges n (inr e) = (omega arith, omega arith)

-- a step of an active job that closes no circle

module _ (b : Book) (P : Proper b) (j : ℕ) (act : T (is_active b j)) where
  pub was_held : (n : ℕ) → T (is_held b n) ⊎ (n ≡ j) → T (is_held b n)
  was_held n (inl t) = t
  was_held n (inr e) = subst (λ m. T (is_held b m)) (sym e) (activity b j act).0

  straight : (m : Bool) (E : ℕ → Type 0) (M : Bool → ℕ → Type 0) → (Closes (book_graph b) m E j → ⊥) → (arrow : ℕ → ℕ → Bool)
      → ((u v : ℕ) → T (arrow u v) → (stepped (book_graph b) m E M j).arrow u v) → (u : ℕ) → Walk arrow anywhere u u → ⊥
  straight m E M still arrow is u w = still (circle_closes m E M j (book_graph b) (λ v x. P.acyclic v (way_walk x)) u (way_map is (λ n t. t) (walk_way w)))

pub possible_read : (b : Book) (j e : ℕ) → Possible b → T (is_active b j) → e < b.settings → (T (read_closes_circle b j e) → ⊥) → Possible (with_read b j e)
possible_read b j e h act small still = record {
  proper = record {
    ranged = λ n t. P.ranged n (held_before n t);
    ends = (formed_same same (formed_stepped true (λ d. d ≡ e) M j (formed b P))).arrow_here;
    acyclic = straight b P j act true (λ d. d ≡ e) M (λ c. still ((read_closes b P j e).1 c)) (with_read b j e).arrow (λ u v. (same.arrow_is u v).1);
    unwritten = λ n d a t. elim ((same.mark_is true n d).1 t) [ inl w ↦ P.unwritten n d (active_before n a) w | inr x ↦ absurd x.1 ];
  };
  settings_fit = h.settings_fit;
  limit_fits = h.limit_fits;
  numbers_fit = h.numbers_fit;
  held_fit = let less = fewer (λ x. true) b (with_read b j e) refl held_before in let old = h.held_fit in omega arith;
  active_fit = let less = fewer (λ x. not x.finished) b (with_read b j e) refl active_before in let old = h.active_fit in omega arith;
  touched_fit = λ n d t. elim ((same.mark_is false n d).1 t) [ inl w ↦ h.touched_fit n d w | inr x ↦ subst (λ y. y < b.settings) (eqb→eq e d x.1) small ];
}
  where
    P : Proper b
    P = h.proper

    M : Bool → ℕ → Type 0
    M m d = T (touch {V = Unit {0}} m (reads j e tt) d)

    same : Same (stepped (book_graph b) true (λ d. d ≡ e) M j) (book_graph (with_read b j e))
    same = book_read b j e tt (activity b j act).0

    held_before : (n : ℕ) → T (is_held (with_read b j e) n) → T (is_held b n)
    held_before n t = was_held b P j act n ((same.here_is n).1 t)

    active_before : (n : ℕ) → T (is_active (with_read b j e) n) → T (is_active b n)
    active_before n t = let α = activity (with_read b j e) n t in active_in (b.job n) (held_before n α.0) (λ f. α.1 ((same.done_is n).0 f))

pub possible_write : {V : Type 0} (b : Book) (j : ℕ) (es : List (ℕ × V)) → Possible b → T (is_active b j) → ((d : ℕ) → T (among d (named es)) → d < b.settings)
    → (T (write_closes_circle b j (named es)) → ⊥) → Possible (with_write b j (named es))
possible_write b j es h act small still = record {
  proper = record {
    ranged = λ n t. P.ranged n (held_before n t);
    ends = (formed_same same (formed_ended j (inr refl) (formed_stepped false E M j (formed b P)))).arrow_here;
    acyclic = straight b P j act false E M (λ c. still ((write_closes b P j (named es)).1 c)) (with_write b j (named es)).arrow (λ u v. (same.arrow_is u v).1);
    unwritten = λ n d a t. elim ((same.mark_is true n d).1 t) [
      | inl w ↦ P.unwritten n d (active_before n a) w
      | inr x ↦ (activity (with_write b j (named es)) n a).1 ((same.done_is n).0 (inr x.0))
    ];
  };
  settings_fit = h.settings_fit;
  limit_fits = h.limit_fits;
  numbers_fit = h.numbers_fit;
  held_fit = let less = fewer (λ x. true) b (with_write b j (named es)) refl held_before in let old = h.held_fit in omega arith;
  active_fit = let less = fewer (λ x. not x.finished) b (with_write b j (named es)) refl active_before in let old = h.active_fit in omega arith;
  touched_fit = λ n d t. elim ((same.mark_is false n d).1 t) [ inl w ↦ h.touched_fit n d w | inr x ↦ small d (entry_named es d x.1) ];
}
  where
    P : Proper b
    P = h.proper

    E : ℕ → Type 0
    E d = T (among d (named es))

    M : Bool → ℕ → Type 0
    M m d = T (touch m (writes j es) d)

    same : Same (ended (stepped (book_graph b) false E M j) j) (book_graph (with_write b j (named es)))
    same = book_write b j es (activity b j act).0 (λ d. P.unwritten j d act)

    held_before : (n : ℕ) → T (is_held (with_write b j (named es)) n) → T (is_held b n)
    held_before n t = was_held b P j act n ((same.here_is n).1 t)

    active_before : (n : ℕ) → T (is_active (with_write b j (named es)) n) → T (is_active b n)
    active_before n t = let α = activity (with_write b j (named es)) n t in active_in (b.job n) (held_before n α.0) (λ f. α.1 ((same.done_is n).0 (inl f)))
