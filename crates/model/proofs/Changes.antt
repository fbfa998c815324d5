-- Each change of a book as a change of its graph.
use Rattle.std.proofs.Common.{◌≡◌, ℕ, ◌+◌, Bool, true, false, cond, not, ◌&&◌, ◌||◌, T, eqb, ◌⊎◌, ◌↔◌, List, Some, None, Option, sym, refl, subst, inl, inr, eqb→eq}
use Rattle.std.proofs.lemmas.Bool.{cases_eq}
use Rattle.model.specs.Lists.{some_of, among}
use Rattle.model.specs.Conflicts.Step.{reads, writes}
use Rattle.model.specs.Book.{Job, Book, holds, is_held, is_finished, written_by, touched_by, removed, forgotten}
use Rattle.model.specs.Calls.{job_after_read, job_after_write, with_read, with_write, named}
use Rattle.model.specs.Begin.{new_job}
use Rattle.model.specs.Begin as Begin
use Rattle.model.proofs.Tests.{and_l, and_r, and_i, or_e, or_l, or_r, eqb_of, apart, apart_e}
use Rattle.model.proofs.Graphs.{Same, stepped, ended, without, bypassed}
use Rattle.model.proofs.Graphs as Graphs
use Rattle.model.proofs.LogGraph.{touch, entry_named, named_entry}
use Rattle.model.proofs.BookGraph.{touch_of, book_graph, touched_held, finished_held, conflict_read, conflict_write}

-- a book changed at one number

pick_same : {A : Type 0} (n j : ℕ) (x y : A) → n ≡ j → ◌≡◌ {A = A} (cond (eqb n j) x y) x
pick_same {A} n j x y e = go (eqb n j) (eqb_of _ _ e)
  where
    go : (c : Bool) → T c → ◌≡◌ {A = A} (cond c x y) x
    go true t = refl
    go false t = elim t [ ]

pick_other : {A : Type 0} (n j : ℕ) (x y : A) → (n ≡ j → ⊥) → ◌≡◌ {A = A} (cond (eqb n j) x y) y
pick_other {A} n j x y f = go (eqb n j) (λ t. f (eqb→eq n j t))
  where
    go : (c : Bool) → (T c → ⊥) → ◌≡◌ {A = A} (cond c x y) y
    go true k = absurd (k tt)
    go false k = refl

abbrev changed : (ℕ → Option Job) → ℕ → Option Job → ℕ → Option Job
changed f j o n = cond (eqb n j) o (f n)

at_change : (f : ℕ → Option Job) (j : ℕ) (o : Option Job) (O : Option Job → Type 0) (U : ℕ → Type 0)
    → ((n : ℕ) → (n ≡ j → ⊥) → U n ↔ O (f n)) → (U j ↔ O o)
    → (n : ℕ) → U n ↔ O (changed f j o n)
at_change f j o O U off at n = elim (cases_eq n j) [
  | inl e ↦ let p = pick_same n j o (f n) e in
      (λ t. subst O (sym p) (at.0 (subst U e t)), λ t. subst U (sym e) (at.1 (subst O p t)))
  | inr k ↦ let p = pick_other n j o (f n) k in
      (λ t. subst O (sym p) ((off n k).0 t), λ t. (off n k).1 (subst O p t))
]

off_sum : {A : Type 0} {Q : Type 0} (n j : ℕ) → (n ≡ j → ⊥) → (A ⊎ ((n ≡ j) × Q)) ↔ A
off_sum n j k = (λ t. elim t [ inl a ↦ a | inr r ↦ absurd (k r.0) ], λ a. inl a)

off_here : {A : Type 0} (n j : ℕ) → (n ≡ j → ⊥) → (A ⊎ (n ≡ j)) ↔ A
off_here n j k = (λ t. elim t [ inl a ↦ a | inr e ↦ absurd (k e) ], λ a. inl a)

-- arrows into j

grown : (a K : Bool) (p q j : ℕ) {C : Type 0} → (T K ↔ C)
    → (T a ⊎ ((q ≡ j) × (p ≡ j → ⊥) × C)) ↔ T (a || (eqb q j && (not (eqb p j) && K)))
grown a K p q j c = (
  λ t. elim t [
    | inl s ↦ or_l a (eqb q j && (not (eqb p j) && K)) s
    | inr s ↦ or_r a (eqb q j && (not (eqb p j) && K)) (and_i (eqb q j) (not (eqb p j) && K) (eqb_of _ _ s.0) (and_i (not (eqb p j)) K (apart _ _ s.1) (c.1 s.2)))
  ],
  λ t. elim (or_e a (eqb q j && (not (eqb p j) && K)) t) [
    | inl s ↦ inl s
    | inr s ↦ let r = and_r (eqb q j) (not (eqb p j) && K) s in
        inr (eqb→eq q j (and_l (eqb q j) (not (eqb p j) && K) s), apart_e _ _ (and_l (not (eqb p j)) K r), c.0 (and_r (not (eqb p j)) K r))
  ],
)

-- a read

read_done : (e : ℕ) (o : Option Job) → T (holds (λ x. x.finished) o) ↔ T (holds (λ x. x.finished) (job_after_read e o))
read_done e None = (λ t. t, λ t. t)
read_done e (Some x) = (λ t. t, λ t. t)

read_here : (e : ℕ) (o : Option Job) → T (holds (λ x. true) o) → T (holds (λ x. true) (job_after_read e o))
read_here e None t = t
read_here e (Some x) t = t

read_mark : {V : Type 0} (e j : ℕ) (v : V) (o : Option Job) → T (holds (λ x. true) o) → (m : Bool) (d : ℕ)
    → (T (touch_of m o d) ⊎ ((j ≡ j) × T (touch m (reads j e v) d))) ↔ T (touch_of m (job_after_read e o) d)
read_mark e j v None i m d = elim i [ ]
read_mark e j v (Some x) i true d = (λ t. elim t [ inl s ↦ s | inr s ↦ absurd s.1 ], λ t. inl t)
read_mark e j v (Some x) i false d = (
  λ t. elim t [
    | inl s ↦ elim (or_e (x.has_read d) (x.has_written d) s) [
      | inl r ↦ or_l (eqb d e || x.has_read d) (x.has_written d) (or_r (eqb d e) (x.has_read d) r)
      | inr r ↦ or_r (eqb d e || x.has_read d) (x.has_written d) r
    ]
    | inr s ↦ or_l (eqb d e || x.has_read d) (x.has_written d) (or_l (eqb d e) (x.has_read d) (eqb_of _ _ (sym (eqb→eq e d s.1))))
  ],
  λ t. elim (or_e (eqb d e || x.has_read d) (x.has_written d) t) [
    | inl r ↦ elim (or_e (eqb d e) (x.has_read d) r) [
      | inl s ↦ inr (refl, eqb_of _ _ (sym (eqb→eq d e s)))
      | inr s ↦ inl (or_l (x.has_read d) (x.has_written d) s)
    ]
    | inr r ↦ inl (or_r (x.has_read d) (x.has_written d) r)
  ],
)

pub book_read : {V : Type 0} (b : Book) (j e : ℕ) (v : V) → T (is_held b j)
    → Same (stepped (book_graph b) true (λ d. d ≡ e) (λ m d. T (touch m (reads j e v) d)) j) (book_graph (with_read b j e))
book_read b j e v i = record {
  arrow_is = λ u v. grown (b.arrow u v) (written_by b u e) u v j (conflict_read b u e);
  here_is = at_change b.job j (job_after_read e (b.job j)) (λ o. T (holds (λ x. true) o)) (λ n. T (is_held b n) ⊎ (n ≡ j)) (λ n k. off_here n j k) (λ t. read_here e (b.job j) i, λ t. inr refl);
  done_is = at_change b.job j (job_after_read e (b.job j)) (λ o. T (holds (λ x. x.finished) o)) (λ n. T (is_finished b n)) (λ n k. (λ t. t, λ t. t)) (read_done e (b.job j));
  mark_is = λ m n d. at_change b.job j (job_after_read e (b.job j)) (λ o. T (touch_of m o d)) (λ n. T (touch_of m (b.job n) d) ⊎ ((n ≡ j) × T (touch m (reads j e v) d))) (λ n k. off_sum n j k) (read_mark e j v (b.job j) i m d) n;
}

-- a write

write_here : (es : List ℕ) (o : Option Job) → T (holds (λ x. true) o)
    → T (holds (λ x. true) (job_after_write es o)) × T (holds (λ x. x.finished) (job_after_write es o))
write_here es None t = elim t [ ]
write_here es (Some x) t = (t, tt)

write_mark : {V : Type 0} (j : ℕ) (es : List (ℕ × V)) (o : Option Job) → T (holds (λ x. true) o) → ((d : ℕ) → T (touch_of true o d) → ⊥) → (m : Bool) (d : ℕ)
    → (T (touch_of m o d) ⊎ ((j ≡ j) × T (touch m (writes j es) d))) ↔ T (touch_of m (job_after_write (named es) o) d)
write_mark j es None i clean m d = elim i [ ]
write_mark j es (Some x) i clean true d = (λ t. elim t [ inl s ↦ absurd (clean d s) | inr s ↦ entry_named es d s.1 ], λ t. inr (refl, named_entry es d t))
write_mark j es (Some x) i clean false d = (
  λ t. elim t [
    | inl s ↦ elim (or_e (x.has_read d) (x.has_written d) s) [
      | inl r ↦ or_l (x.has_read d) (among d (named es)) r
      | inr r ↦ absurd (clean d r)
    ]
    | inr s ↦ or_r (x.has_read d) (among d (named es)) (entry_named es d s.1)
  ],
  λ t. elim (or_e (x.has_read d) (among d (named es)) t) [
    | inl r ↦ inl (or_l (x.has_read d) (x.has_written d) r)
    | inr r ↦ inr (refl, named_entry es d r)
  ],
)

pub book_write : {V : Type 0} (b : Book) (j : ℕ) (es : List (ℕ × V)) → T (is_held b j) → ((d : ℕ) → T (written_by b j d) → ⊥)
    → Same (ended (stepped (book_graph b) false (λ d. T (among d (named es))) (λ m d. T (touch m (writes j es) d)) j) j) (book_graph (with_write b j (named es)))
book_write b j es i clean = record {
  arrow_is = λ u v. grown (b.arrow u v) (some_of (touched_by b u) (named es)) u v j (conflict_write b u (named es));
  here_is = at_change b.job j o (λ o. T (holds (λ x. true) o)) (λ n. T (is_held b n) ⊎ (n ≡ j)) (λ n k. off_here n j k) (λ t. (write_here (named es) (b.job j) i).0, λ t. inr refl);
  done_is = at_change b.job j o (λ o. T (holds (λ x. x.finished) o)) (λ n. T (is_finished b n) ⊎ (n ≡ j)) (λ n k. off_here n j k) (λ t. (write_here (named es) (b.job j) i).1, λ t. inr refl);
  mark_is = λ m n d. at_change b.job j o (λ o. T (touch_of m o d)) (λ n. T (touch_of m (b.job n) d) ⊎ ((n ≡ j) × T (touch m (writes j es) d))) (λ n k. off_sum n j k) (write_mark j es (b.job j) i clean m d) n;
}
  where
    o : Option Job
    o = job_after_write (named es) (b.job j)

-- a job is removed, or forgotten

off_gone : {A : Type 0} (n j : ℕ) → (n ≡ j → ⊥) → (A × (n ≡ j → ⊥)) ↔ A
off_gone n j k = (λ t. t.0, λ a. (a, k))

at_gone : {A : Type 0} (j : ℕ) → (A × (j ≡ j → ⊥)) ↔ ⊥
at_gone j = (λ t. t.1 refl, λ t. absurd t)

mark_gone : {A : Type 0} (j : ℕ) (m : Bool) (d : ℕ) → (A × (j ≡ j → ⊥)) ↔ T (touch_of m None d)
mark_gone j true d = at_gone j
mark_gone j false d = at_gone j

-- another job is as it was
pub job_apart : (b : Book) (j n : ℕ) → (n ≡ j → ⊥) → (removed b j).job n ≡ b.job n
job_apart b j n d = pick_other n j None (b.job n) d

-- what is still there was there
pub gone_e : (f : Job → Bool) (b : Book) (j n : ℕ) → T (holds f ((removed b j).job n)) → T (holds f (b.job n)) × (n ≡ j → ⊥)
gone_e f b j n = (at_change b.job j None (λ o. T (holds f o)) (λ n. T (holds f (b.job n)) × (n ≡ j → ⊥)) (λ n k. off_gone n j k) (at_gone j) n).1

gone_here : (b : Book) (j n : ℕ) → (T (is_held b n) × (n ≡ j → ⊥)) ↔ T (is_held (removed b j) n)
gone_here b j = at_change b.job j None (λ o. T (holds (λ x. true) o)) (λ n. T (is_held b n) × (n ≡ j → ⊥)) (λ n k. off_gone n j k) (at_gone j)

gone_done : (b : Book) (j n : ℕ) → (T (is_finished b n) × (n ≡ j → ⊥)) ↔ T (is_finished (removed b j) n)
gone_done b j = at_change b.job j None (λ o. T (holds (λ x. x.finished) o)) (λ n. T (is_finished b n) × (n ≡ j → ⊥)) (λ n k. off_gone n j k) (at_gone j)

gone_mark : (b : Book) (j : ℕ) (m : Bool) (n d : ℕ) → (T (touch_of m (b.job n) d) × (n ≡ j → ⊥)) ↔ T (touch_of m ((removed b j).job n) d)
gone_mark b j m n d = at_change b.job j None (λ o. T (touch_of m o d)) (λ n. T (touch_of m (b.job n) d) × (n ≡ j → ⊥)) (λ n k. off_gone n j k) (mark_gone j m d) n

cleared : (a : Bool) (p q j : ℕ) {C : Type 0} → (C ↔ T a)
    → (C × (p ≡ j → ⊥) × (q ≡ j → ⊥)) ↔ T (not (eqb p j) && (not (eqb q j) && a))
cleared a p q j c = (
  λ t. and_i (not (eqb p j)) (not (eqb q j) && a) (apart _ _ t.1) (and_i (not (eqb q j)) a (apart _ _ t.2) (c.0 t.0)),
  λ t. let r = and_r (not (eqb p j)) (not (eqb q j) && a) t in
      (c.1 (and_r (not (eqb q j)) a r), apart_e _ _ (and_l (not (eqb p j)) (not (eqb q j) && a) t), apart_e _ _ (and_l (not (eqb q j)) a r)),
)

pub book_removed : (b : Book) (j : ℕ) → Same (without (book_graph b) j) (book_graph (removed b j))
book_removed b j = record {
  arrow_is = λ u v. cleared (b.arrow u v) u v j (λ t. t, λ t. t);
  here_is = gone_here b j;
  done_is = gone_done b j;
  mark_is = gone_mark b j;
}

pub book_forgotten : (b : Book) (i : ℕ) → Same (bypassed (book_graph b) i) (book_graph (forgotten b i))
book_forgotten b i = record {
  arrow_is = λ u v. cleared (b.arrow u v || (b.arrow u i && b.arrow i v)) u v i (
    λ t. elim t [ inl a ↦ or_l (b.arrow u v) (b.arrow u i && b.arrow i v) a | inr r ↦ or_r (b.arrow u v) (b.arrow u i && b.arrow i v) (and_i (b.arrow u i) (b.arrow i v) r.0 r.1) ],
    λ t. elim (or_e (b.arrow u v) (b.arrow u i && b.arrow i v) t) [ inl a ↦ inl a | inr a ↦ inr (and_l (b.arrow u i) (b.arrow i v) a, and_r (b.arrow u i) (b.arrow i v) a) ],
  );
  here_is = gone_here b i;
  done_is = gone_done b i;
  mark_is = gone_mark b i;
}

-- a new job

pub book_new_job : (b : Book) → (T (is_held b (b.last + 1)) → ⊥) → Same (Graphs.with_new_job (book_graph b) (b.last + 1)) (book_graph (Begin.with_new_job b))
book_new_job b none = record {
  arrow_is = λ u v. (λ t. t, λ t. t);
  here_is = at_change b.job i (Some new_job) (λ o. T (holds (λ x. true) o)) (λ n. T (is_held b n) ⊎ (n ≡ i)) (λ n k. off_here n i k) (λ t. tt, λ t. inr refl);
  done_is = at_change b.job i (Some new_job) (λ o. T (holds (λ x. x.finished) o)) (λ n. T (is_finished b n)) (λ n k. (λ t. t, λ t. t)) (λ t. none (finished_held b i t), λ t. absurd t);
  mark_is = λ m n d. at_change b.job i (Some new_job) (λ o. T (touch_of m o d)) (λ n. T (touch_of m (b.job n) d)) (λ n k. (λ t. t, λ t. t)) (λ t. absurd (none (touched_held m (b.job i) d t)), λ t. absurd (unmarked m d t)) n;
}
  where
    i : ℕ
    i = b.last + 1

    unmarked : (m : Bool) (d : ℕ) → T (touch_of m (Some new_job) d) → ⊥
    unmarked true d t = t
    unmarked false d t = t

-- the other jobs are as they were
pub new_job_apart : (b : Book) (n : ℕ) → (n ≡ b.last + 1 → ⊥) → (Begin.with_new_job b).job n ≡ b.job n
new_job_apart b n d = pick_other n (b.last + 1) (Some new_job) (b.job n) d
