-- The steps of a log as a conflict graph: what a last step adds, and what striking out a job removes.
use Rattle.std.proofs.Common.{◌≡◌, ℕ, Bool, true, false, cond, not, ◌&&◌, T, eqb, ◌⊎◌, ◌↔◌, List, [], ◌∷◌, ◌++◌, filter, sym, refl, ◌∙◌, subst, inl, inr, eqb→eq}
use lib.Dec.{eqb_refl}
use Rattle.model.specs.Lists.{some_of, among}
use Rattle.model.specs.Conflicts.{Step, by, is_write, writes_to, touches, conflict, of_job, precedes}
use Rattle.model.specs.Conflicts.Step.{reads, writes}
use Rattle.model.specs.Calls.{named}
use Rattle.model.proofs.Tests.{and_l, and_r, and_i, or_e, or_l, or_r, eqb_of, apart, apart_e, some_out, some_map, some_left, some_last, some_cases, some_filter_i, some_filter_e}
use Rattle.model.proofs.Lists.{some_i, some_e}
use Rattle.model.proofs.Graphs.{Graph, Same, Conflict, stepped, ended, without}

module _ {V : Type 0} where
  -- a step writes a setting (true), or touches it (false)
  abbrev pub touch : Bool → Step V → ℕ → Bool
  touch true s e = writes_to s e
  touch false s e = touches s e

  abbrev pub log_graph : List (Step V) → Graph
  log_graph h = record {
    arrow = λ u v. T (precedes h u v);
    here = λ n. T (some_of (of_job (λ s. true) n) h);
    done = λ n. T (some_of (of_job is_write n) h);
    mark = λ m n e. T (some_of (of_job (λ s. touch m s e) n) h);
  }

  of_job_in : (f : Step V → Bool) (n : ℕ) (s : Step V) → by s ≡ n → T (f s) → T (of_job f n s)
  of_job_in f n s e t = and_i (eqb (by s) n) (f s) (eqb_of _ _ e) t

  of_job_by : (f : Step V → Bool) (n : ℕ) (s : Step V) → T (of_job f n s) → by s ≡ n
  of_job_by f n s t = eqb→eq (by s) n (and_l (eqb (by s) n) (f s) t)

  of_job_test : (f : Step V → Bool) (n : ℕ) (s : Step V) → T (of_job f n s) → T (f s)
  of_job_test f n s t = and_r (eqb (by s) n) (f s) t

  -- the first arrow of a log, from its first step
  abbrev leads : Step V → List (Step V) → ℕ → ℕ → Bool
  leads s h u v = eqb (by s) u && not (eqb u v) && some_of (of_job (conflict s) v) h

  leads_out : (s : Step V) (h : List (Step V)) (u v : ℕ) → T (leads s h u v) → (by s ≡ u) × (u ≡ v → ⊥) × T (some_of (of_job (conflict s) v) h)
  leads_out s h u v t =
      let a = and_l (eqb (by s) u && not (eqb u v)) (some_of (of_job (conflict s) v) h) t in
      (eqb→eq (by s) u (and_l (eqb (by s) u) (not (eqb u v)) a), apart_e _ _ (and_r (eqb (by s) u) (not (eqb u v)) a), and_r (eqb (by s) u && not (eqb u v)) (some_of (of_job (conflict s) v) h) t)

  leads_in : (s : Step V) (h : List (Step V)) (u v : ℕ) → by s ≡ u → (u ≡ v → ⊥) → T (some_of (of_job (conflict s) v) h) → T (leads s h u v)
  leads_in s h u v e f t = and_i (eqb (by s) u && not (eqb u v)) (some_of (of_job (conflict s) v) h) (and_i (eqb (by s) u) (not (eqb u v)) (eqb_of _ _ e) (apart _ _ f)) t

  -- what a step conflicts with

  abbrev strength : Step V → Bool
  strength (reads j e v) = true
  strength (writes j es) = false

  abbrev Meets : Step V → ℕ → Type 0
  Meets (reads j e v) d = d ≡ e
  Meets (writes j es) d = T (among d (named es))

  pub entry_named : (es : List (ℕ × V)) (d : ℕ) → T (some_of (λ (en : ℕ × V). eqb en.0 d) es) → T (among d (named es))
  entry_named [] d t = t
  entry_named (en ∷ es) d t = elim (or_e (eqb en.0 d) (some_of (λ (x : ℕ × V). eqb x.0 d) es) t) [
    | inl a ↦ or_l (eqb d en.0) (among d (named es)) (eqb_of _ _ (sym (eqb→eq en.0 d a)))
    | inr a ↦ or_r (eqb d en.0) (among d (named es)) (entry_named es d a)
  ]

  pub named_entry : (es : List (ℕ × V)) (d : ℕ) → T (among d (named es)) → T (some_of (λ (en : ℕ × V). eqb en.0 d) es)
  named_entry [] d t = t
  named_entry (en ∷ es) d t = elim (or_e (eqb d en.0) (among d (named es)) t) [
    | inl a ↦ or_l (eqb en.0 d) (some_of (λ (x : ℕ × V). eqb x.0 d) es) (eqb_of _ _ (sym (eqb→eq d en.0 a)))
    | inr a ↦ or_r (eqb en.0 d) (some_of (λ (x : ℕ × V). eqb x.0 d) es) (named_entry es d a)
  ]

  some_named : (f : ℕ → Bool) (es : List (ℕ × V)) → T (some_of (λ (en : ℕ × V). f en.0) es) → T (some_of f (named es))
  some_named f [] t = t
  some_named f (en ∷ es) t = elim (or_e (f en.0) (some_of (λ (x : ℕ × V). f x.0) es) t) [
    | inl a ↦ or_l (f en.0) (some_of f (named es)) a
    | inr a ↦ or_r (f en.0) (some_of f (named es)) (some_named f es a)
  ]

  named_some : (f : ℕ → Bool) (es : List (ℕ × V)) → T (some_of f (named es)) → T (some_of (λ (en : ℕ × V). f en.0) es)
  named_some f [] t = t
  named_some f (en ∷ es) t = elim (or_e (f en.0) (some_of f (named es)) t) [
    | inl a ↦ or_l (f en.0) (some_of (λ (x : ℕ × V). f x.0) es) a
    | inr a ↦ or_r (f en.0) (some_of (λ (x : ℕ × V). f x.0) es) (named_some f es a)
  ]

  conflict_in : (t s : Step V) → T (conflict t s) → (d : ℕ) × Meets s d × T (touch (strength s) t d)
  conflict_in (reads j e v) (reads i c x) a = elim a [ ]
  conflict_in (writes j es) (reads i c x) a = (c, refl, some_map (λ (en : ℕ × V). eqb c en.0) (λ (en : ℕ × V). eqb en.0 c) (λ en r. eqb_of _ _ (sym (eqb→eq c en.0 r))) es a)
  conflict_in (reads j e v) (writes i cs) a = (e, entry_named cs e a, eqb_refl e)
  conflict_in (writes j es) (writes i cs) a =
      let r = some_e (λ d. some_of (λ (en : ℕ × V). eqb en.0 d) cs) (named es) (some_named (λ d. some_of (λ (en : ℕ × V). eqb en.0 d) cs) es a) in
      (r.0, entry_named cs r.0 r.2, named_entry es r.0 r.1)

  conflict_out : (t s : Step V) (d : ℕ) → Meets s d → T (touch (strength s) t d) → T (conflict t s)
  conflict_out (reads j e v) (reads i c x) d a b = elim b [ ]
  conflict_out (writes j es) (reads i c x) d a b = some_map (λ (en : ℕ × V). eqb en.0 d) (λ (en : ℕ × V). eqb c en.0) (λ en r. eqb_of _ _ (sym (eqb→eq en.0 d r ∙ a))) es b
  conflict_out (reads j e v) (writes i cs) d a b = subst (λ y. T (some_of (λ (en : ℕ × V). eqb en.0 y) cs)) (sym (eqb→eq e d b)) (named_entry cs d a)
  conflict_out (writes j es) (writes i cs) d a b = named_some (λ d. some_of (λ (en : ℕ × V). eqb en.0 d) cs) es
      (some_i (λ d. some_of (λ (en : ℕ × V). eqb en.0 d) cs) (named es) d (entry_named es d b) (named_entry cs d a))

  met_in : (s : Step V) (u : ℕ) (h : List (Step V)) → T (some_of (of_job (λ t. conflict t s) u) h) → Conflict (log_graph h) (strength s) (Meets s) u
  met_in s u [] a = elim a [ ]
  met_in s u (t ∷ h) a = elim (or_e (of_job (λ t. conflict t s) u t) (some_of (of_job (λ t. conflict t s) u) h) a) [
    | inl b ↦ let r = conflict_in t s (of_job_test (λ t. conflict t s) u t b) in (
      r.0,
      r.1,
      or_l (of_job (λ x. touch (strength s) x r.0) u t) (some_of (of_job (λ x. touch (strength s) x r.0) u) h)
          (of_job_in (λ x. touch (strength s) x r.0) u t (of_job_by (λ t. conflict t s) u t b) r.2),
    )
    | inr b ↦ let r = met_in s u h b in
        (r.0, r.1, or_r (of_job (λ x. touch (strength s) x r.0) u t) (some_of (of_job (λ x. touch (strength s) x r.0) u) h) r.2)
  ]

  met_out : (s : Step V) (u : ℕ) (h : List (Step V)) → Conflict (log_graph h) (strength s) (Meets s) u → T (some_of (of_job (λ t. conflict t s) u) h)
  met_out s u h c = some_map (of_job (λ x. touch (strength s) x c.0) u) (of_job (λ t. conflict t s) u)
      (λ t b. of_job_in (λ x. conflict x s) u t (of_job_by (λ x. touch (strength s) x c.0) u t b) (conflict_out t s c.0 c.1 (of_job_test (λ x. touch (strength s) x c.0) u t b)))
      h c.2

  -- the arrows that a last step adds

  abbrev New : Step V → List (Step V) → ℕ → ℕ → Type 0
  New s h u v = (by s ≡ v) × (u ≡ v → ⊥) × T (some_of (of_job (λ t. conflict t s) u) h)

  last_in : (s : Step V) (h : List (Step V)) (u v : ℕ) → T (precedes (h ++ (s ∷ [])) u v) → T (precedes h u v) ⊎ New s h u v
  last_in s [] u v t = elim (or_e (leads s [] u v) false t) [ inl a ↦ absurd (leads_out s [] u v a).2 | inr a ↦ absurd a ]
  last_in s (x ∷ h) u v t = go (or_e (leads x (h ++ (s ∷ [])) u v) (precedes (h ++ (s ∷ [])) u v) t) (λ a. last_in s h u v a)
    where
      old : T (precedes h u v) ⊎ New s h u v → T (precedes (x ∷ h) u v) ⊎ New s (x ∷ h) u v
      old (inl a) = inl (or_r (leads x h u v) (precedes h u v) a)
      old (inr (e, f, c)) = inr (e, f, or_r (of_job (λ t. conflict t s) u x) (some_of (of_job (λ t. conflict t s) u) h) c)

      led : (by x ≡ u) → (u ≡ v → ⊥) → T (some_of (of_job (conflict x) v) h) ⊎ T (of_job (conflict x) v s) → T (precedes (x ∷ h) u v) ⊎ New s (x ∷ h) u v
      led e f (inl a) = inl (or_l (leads x h u v) (precedes h u v) (leads_in x h u v e f a))
      led e f (inr a) = inr (of_job_by (conflict x) v s a, f, or_l (of_job (λ t. conflict t s) u x) (some_of (of_job (λ t. conflict t s) u) h) (of_job_in (λ t. conflict t s) u x e (of_job_test (conflict x) v s a)))

      go : T (leads x (h ++ (s ∷ [])) u v) ⊎ T (precedes (h ++ (s ∷ [])) u v) → (T (precedes (h ++ (s ∷ [])) u v) → T (precedes h u v) ⊎ New s h u v)
          → T (precedes (x ∷ h) u v) ⊎ New s (x ∷ h) u v
      go (inl a) ih = let r = leads_out x (h ++ (s ∷ [])) u v a in led r.0 r.1 (some_cases (of_job (conflict x) v) h s r.2)
      go (inr a) ih = old (ih a)

  last_old : (s : Step V) (h : List (Step V)) (u v : ℕ) → T (precedes h u v) → T (precedes (h ++ (s ∷ [])) u v)
  last_old s [] u v t = elim t [ ]
  last_old s (x ∷ h) u v t = elim (or_e (leads x h u v) (precedes h u v) t) [
    | inl a ↦ let r = leads_out x h u v a in or_l (leads x (h ++ (s ∷ [])) u v) (precedes (h ++ (s ∷ [])) u v) (leads_in x (h ++ (s ∷ [])) u v r.0 r.1 (some_left (of_job (conflict x) v) h (s ∷ []) r.2))
    | inr a ↦ or_r (leads x (h ++ (s ∷ [])) u v) (precedes (h ++ (s ∷ [])) u v) (last_old s h u v a)
  ]

  last_new : (s : Step V) (h : List (Step V)) (u v : ℕ) → New s h u v → T (precedes (h ++ (s ∷ [])) u v)
  last_new s [] u v (e, f, c) = elim c [ ]
  last_new s (x ∷ h) u v (e, f, c) = elim (or_e (of_job (λ t. conflict t s) u x) (some_of (of_job (λ t. conflict t s) u) h) c) [
    | inl a ↦ or_l (leads x (h ++ (s ∷ [])) u v) (precedes (h ++ (s ∷ [])) u v) (leads_in x (h ++ (s ∷ [])) u v (of_job_by (λ t. conflict t s) u x a) f
        (some_last (of_job (conflict x) v) h s (of_job_in (conflict x) v s e (of_job_test (λ t. conflict t s) u x a))))
    | inr a ↦ or_r (leads x (h ++ (s ∷ [])) u v) (precedes (h ++ (s ∷ [])) u v) (last_new s h u v (e, f, a))
  ]

  -- the log with a last step

  arrow_stepped : (s : Step V) (h : List (Step V)) (u v : ℕ)
      → ((T (precedes h u v) ⊎ ((v ≡ by s) × (u ≡ by s → ⊥) × Conflict (log_graph h) (strength s) (Meets s) u)) → T (precedes (h ++ (s ∷ [])) u v))
      × (T (precedes (h ++ (s ∷ [])) u v) → T (precedes h u v) ⊎ ((v ≡ by s) × (u ≡ by s → ⊥) × Conflict (log_graph h) (strength s) (Meets s) u))
  arrow_stepped s h u v = (
    λ t. elim t [ inl a ↦ last_old s h u v a | inr r ↦ last_new s h u v (sym r.0, (λ i. r.1 (i ∙ r.0)), met_out s u h r.2) ],
    λ t. elim (last_in s h u v t) [ inl a ↦ inl a | inr r ↦ inr (sym r.0, (λ i. r.1 (i ∙ r.0)), met_in s u h r.2) ],
  )

  job_stepped : (f : Step V → Bool) (s : Step V) (h : List (Step V)) (n : ℕ)
      → (T (some_of (of_job f n) h) ⊎ ((n ≡ by s) × T (f s))) ↔ T (some_of (of_job f n) (h ++ (s ∷ [])))
  job_stepped f s h n = (
    λ t. elim t [ inl a ↦ some_left (of_job f n) h (s ∷ []) a | inr r ↦ some_last (of_job f n) h s (of_job_in f n s (sym r.0) r.1) ],
    λ t. elim (some_cases (of_job f n) h s t) [ inl a ↦ inl a | inr a ↦ inr (sym (of_job_by f n s a), of_job_test f n s a) ],
  )

  here_stepped : (s : Step V) (h : List (Step V)) (n : ℕ)
      → (T (some_of (of_job (λ s. true) n) h) ⊎ (n ≡ by s)) ↔ T (some_of (of_job (λ s. true) n) (h ++ (s ∷ [])))
  here_stepped s h n = let r = job_stepped (λ x. true) s h n in
      (λ t. r.0 (elim t [ inl a ↦ inl a | inr e ↦ inr (e, tt) ]), λ t. elim (r.1 t) [ inl a ↦ inl a | inr e ↦ inr e.0 ])

  pub log_read : (h : List (Step V)) (j e : ℕ) (v : V)
      → Same (stepped (log_graph h) true (λ d. d ≡ e) (λ m d. T (touch m (reads j e v) d)) j) (log_graph (h ++ (reads j e v ∷ [])))
  log_read h j e v = record {
    arrow_is = arrow_stepped (reads j e v) h;
    here_is = here_stepped (reads j e v) h;
    done_is = λ n. let r = job_stepped is_write (reads j e v) h n in (λ t. r.0 (inl t), λ t. elim (r.1 t) [ inl a ↦ a | inr x ↦ absurd x.1 ]);
    mark_is = λ m n d. job_stepped (λ s. touch m s d) (reads j e v) h n;
  }

  pub log_write : (h : List (Step V)) (j : ℕ) (es : List (ℕ × V))
      → Same (ended (stepped (log_graph h) false (λ d. T (among d (named es))) (λ m d. T (touch m (writes j es) d)) j) j) (log_graph (h ++ (writes j es ∷ [])))
  log_write h j es = record {
    arrow_is = arrow_stepped (writes j es) h;
    here_is = here_stepped (writes j es) h;
    done_is = λ n. let r = job_stepped is_write (writes j es) h n in (λ t. r.0 (elim t [ inl a ↦ inl a | inr e ↦ inr (e, tt) ]), λ t. elim (r.1 t) [ inl a ↦ inl a | inr x ↦ inr x.0 ]);
    mark_is = λ m n d. job_stepped (λ s. touch m s d) (writes j es) h n;
  }

  -- the log without a job

  abbrev pub others : ℕ → Step V → Bool
  others j s = not (eqb (by s) j)

  job_without : (f : Step V → Bool) (j : ℕ) (h : List (Step V)) (n : ℕ)
      → (T (some_of (of_job f n) h) × (n ≡ j → ⊥)) ↔ T (some_of (of_job f n) (filter (others j) h))
  job_without f j h n = (
    λ t. some_filter_i (of_job f n) (others j) (λ s a. apart _ _ (λ e. t.1 (sym (of_job_by f n s a) ∙ e))) h t.0,
    λ t. let r = some_filter_e (of_job f n) (others j) h t in (
      some_map (λ s. of_job f n s && others j s) (of_job f n) (λ s a. and_l (of_job f n s) (others j s) a) h r,
      some_out (λ s. of_job f n s && others j s) (λ s a e. apart_e _ _ (and_r (of_job f n s) (others j s) a) (of_job_by f n s (and_l (of_job f n s) (others j s) a) ∙ e)) h r,
    ),
  )

  erased_in : (j : ℕ) (h : List (Step V)) (u v : ℕ) → T (precedes h u v) → (u ≡ j → ⊥) → (v ≡ j → ⊥) → T (precedes (filter (others j) h) u v)
  erased_in j [] u v t f g = t
  erased_in j (s ∷ h) u v t f g = go (others j s) (λ e. apart _ _ (λ i. f (sym e ∙ i))) (or_e (leads s h u v) (precedes h u v) t) (λ a. erased_in j h u v a f g)
    where
      go : (c : Bool) → (by s ≡ u → T c) → T (leads s h u v) ⊎ T (precedes h u v) → (T (precedes h u v) → T (precedes (filter (others j) h) u v))
          → T (precedes (cond c (s ∷ filter (others j) h) (filter (others j) h)) u v)
      go true k (inl a) ih = let r = leads_out s h u v a in or_l (leads s (filter (others j) h) u v) (precedes (filter (others j) h) u v)
          (leads_in s (filter (others j) h) u v r.0 r.1 ((job_without (conflict s) j h v).0 (r.2, g)))
      go true k (inr a) ih = or_r (leads s (filter (others j) h) u v) (precedes (filter (others j) h) u v) (ih a)
      go false k (inl a) ih = absurd (k (leads_out s h u v a).0)
      go false k (inr a) ih = ih a

  erased_out : (j : ℕ) (h : List (Step V)) (u v : ℕ) → T (precedes (filter (others j) h) u v) → T (precedes h u v) × (u ≡ j → ⊥) × (v ≡ j → ⊥)
  erased_out j [] u v t = elim t [ ]
  erased_out j (s ∷ h) u v t = go (others j s) (λ c. apart_e _ _ c) t (λ a. erased_out j h u v a)
    where
      later : T (precedes h u v) × (u ≡ j → ⊥) × (v ≡ j → ⊥) → T (precedes (s ∷ h) u v) × (u ≡ j → ⊥) × (v ≡ j → ⊥)
      later (a, f, g) = (or_r (leads s h u v) (precedes h u v) a, f, g)

      go : (c : Bool) → (T c → by s ≡ j → ⊥) → T (precedes (cond c (s ∷ filter (others j) h) (filter (others j) h)) u v)
          → (T (precedes (filter (others j) h) u v) → T (precedes h u v) × (u ≡ j → ⊥) × (v ≡ j → ⊥)) → T (precedes (s ∷ h) u v) × (u ≡ j → ⊥) × (v ≡ j → ⊥)
      go true k a ih = elim (or_e (leads s (filter (others j) h) u v) (precedes (filter (others j) h) u v) a) [
        | inl b ↦ let r = leads_out s (filter (others j) h) u v b in let x = (job_without (conflict s) j h v).1 r.2 in
            (or_l (leads s h u v) (precedes h u v) (leads_in s h u v r.0 r.1 x.0), λ i. k tt (r.0 ∙ i), x.1)
        | inr b ↦ later (ih b)
      ]
      go false k a ih = later (ih a)

  pub log_erased : (h : List (Step V)) (j : ℕ) → Same (without (log_graph h) j) (log_graph (filter (others j) h))
  log_erased h j = record {
    arrow_is = λ u v. (λ t. erased_in j h u v t.0 t.1 t.2, erased_out j h u v);
    here_is = job_without (λ s. true) j h;
    done_is = job_without is_write j h;
    mark_is = λ m n e. job_without (λ s. touch m s e) j h n;
  }
