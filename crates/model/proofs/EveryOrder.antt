-- The finished jobs, executed serially in any order that keeps the conflicts, leave the row of the run.
use Rattle.std.proofs.Common.{◌≡◌, ℕ, zero, suc, Bool, not, ◌&&◌, T, eqb, List, [], ◌∷◌, ◌++◌, length, set, Some, filter, sym, refl, ap, ◌∙◌, subst, inl, inr, eqb→eq, length-set}
use lib.Dec.{eqb_refl, not_T}
use Rattle.std.specs.List.{slice_get}
use Rattle.model.specs.Lists.{some_of, among, Distinct}
use Rattle.model.specs.Conflicts.{Step, by, is_write, precedes, conflict, of_job}
use Rattle.model.specs.Conflicts.Step.{reads, writes}
use Rattle.model.specs.Calls.{put_all}
use Rattle.model.specs.Serial.{InOrder, KeepsConflicts, steps_by, Executes, Serially}
use Rattle.model.specs.Serial.Executes.{none_left, reading, writing}
use Rattle.model.specs.Serial.Serially.{all_run, then_run}
use Rattle.model.proofs.Tests.{and_l, and_r, and_i, or_e, or_l, or_r, decided, eqb_of, filter_yes, filter_no, filter_filter}
use Rattle.model.proofs.Lists.{In, some_member, member_some, filter_member}
use Rattle.model.proofs.Lists.In.{here, there}

module _ {V : Type 0} where
  -- writes to different settings can change places

  value_set : (row : List V) (d e : ℕ) (v : V) → (d ≡ e → ⊥) → slice_get (set row d v) e ≡ slice_get row e
  value_set [] d e v n = refl
  value_set (x ∷ xs) zero zero v n = absurd (n refl)
  value_set (x ∷ xs) zero (suc e) v n = refl
  value_set (x ∷ xs) (suc d) zero v n = refl
  value_set (x ∷ xs) (suc d) (suc e) v n = value_set xs d e v (λ p. n (ap suc p))

  set_apart : (row : List V) (d e : ℕ) (u v : V) → (d ≡ e → ⊥) → set (set row d u) e v ≡ set (set row e v) d u
  set_apart [] d e u v n = refl
  set_apart (x ∷ xs) zero zero u v n = absurd (n refl)
  set_apart (x ∷ xs) zero (suc e) u v n = refl
  set_apart (x ∷ xs) (suc d) zero u v n = refl
  set_apart (x ∷ xs) (suc d) (suc e) u v n = ap {B = List V} (λ r. x ∷ r) (set_apart xs d e u v (λ p. n (ap suc p)))

  abbrev Names : List (ℕ × V) → ℕ → Bool
  Names es d = some_of (λ (en : ℕ × V). eqb en.0 d) es

  value_put : (row : List V) (es : List (ℕ × V)) (e : ℕ) → (T (Names es e) → ⊥) → slice_get (put_all row es) e ≡ slice_get row e
  value_put row [] e n = refl
  value_put row (en ∷ es) e n = value_put (set row en.0 en.1) es e (λ t. n (or_r _ _ t)) ∙ value_set row en.0 e en.1 (λ p. n (or_l _ _ (eqb_of _ _ p)))

  put_set : (row : List V) (es : List (ℕ × V)) (e : ℕ) (v : V) → (T (Names es e) → ⊥) → put_all (set row e v) es ≡ set (put_all row es) e v
  put_set row [] e v n = refl
  put_set row (en ∷ es) e v n =
      ap (λ (r : List V). put_all r es) (sym (set_apart row en.0 e en.1 v (λ p. n (or_l _ _ (eqb_of _ _ p)))))
      ∙ put_set (set row en.0 en.1) es e v (λ t. n (or_r _ _ t))

  put_apart : (row : List V) (ds es : List (ℕ × V)) → (T (some_of (λ (en : ℕ × V). Names ds en.0) es) → ⊥)
      → put_all (put_all row es) ds ≡ put_all (put_all row ds) es
  put_apart row ds [] n = refl
  put_apart row ds (en ∷ es) n =
      put_apart (set row en.0 en.1) ds es (λ t. n (or_r _ _ t))
      ∙ ap (λ (r : List V). put_all r es) (put_set row ds en.0 en.1 (λ t. n (or_l _ _ t)))

  turned : (ds : List (ℕ × V)) (e : ℕ) → T (Names ds e) → T (some_of (λ (en : ℕ × V). eqb e en.0) ds)
  turned ds e t = let r = some_member (λ (en : ℕ × V). eqb en.0 e) ds t in member_some (λ (en : ℕ × V). eqb e en.0) r.1 (eqb_of _ _ (sym (eqb→eq r.0.0 e r.2)))

  -- one step executed on a row

  abbrev StepMakes : List V → Step V → List V → Type 0
  StepMakes row (reads j e v) row' = (slice_get row e ≡ Some v) × (row ≡ row')
  StepMakes row (writes j es) row' = put_all row es ≡ row'

  -- a step that conflicts with none of the steps after it may be executed after them
  put_off : (s : Step V) (row row' : List V) → StepMakes row s row' → {ts : List (Step V)} {row'' : List V} → Executes row' ts row''
      → ((t : Step V) → In t ts → T (conflict s t) → ⊥) → (r : List V) × Executes row ts r × StepMakes r s row''
  put_off s row row' m none_left n = (row, none_left, m)
  put_off (reads i d u) row row' m (reading {j = j} {e = e} {v = v} p w) n =
      let r = put_off (reads i d u) row row' m w (λ t k. n t (there k)) in
      (r.0, reading (rw m.1 p) r.1, r.2)
  put_off (reads i d u) row row' m (writing {j = j} {es = es} w) n =
      let r = put_off (reads i d u) (put_all row es) (put_all row' es) (value_put row es d (n (writes j es) here) ∙ m.0, ap (λ (z : List V). put_all z es) m.1) w (λ t k. n t (there k)) in
      (r.0, writing r.1, r.2)
  put_off (writes i ds) row row' m (reading {j = j} {e = e} {v = v} p w) n =
      let r = put_off (writes i ds) row row' m w (λ t k. n t (there k)) in
      let q : slice_get (put_all row ds) e ≡ Some v = rw m p in
      (r.0, reading (sym (value_put row ds e (λ t. n (reads j e v) here (turned ds e t))) ∙ q) r.1, r.2)
  put_off (writes i ds) row row' m (writing {j = j} {es = es} w) n =
      let r = put_off (writes i ds) (put_all row es) (put_all row' es) (sym (put_apart row es ds (n (writes j es) here)) ∙ ap (λ (z : List V). put_all z es) m) w (λ t k. n t (there k)) in
      (r.0, writing r.1, r.2)

  makes_one : (s : Step V) (row row' : List V) → StepMakes row s row' → {ts : List (Step V)} {row'' : List V} → Executes row' ts row'' → Executes row (s ∷ ts) row''
  makes_one (reads j e v) row row' m w = reading m.0 (rw m.1 w)
  makes_one (writes j es) row row' m w = writing (rw m w)

  one_makes : (s : Step V) (ts : List (Step V)) (row row'' : List V) → Executes row (s ∷ ts) row'' → (row' : List V) × StepMakes row s row' × Executes row' ts row''
  one_makes (reads j e v) ts row row'' (reading p w) = (row, (p, refl), w)
  one_makes (writes j es) ts row row'' (writing w) = (put_all row es, refl, w)

  -- conflicts

  precedes_head : (s : Step V) (h : List (Step V)) (v : ℕ) (t : Step V) → (by s ≡ v → ⊥) → In t h → by t ≡ v → T (conflict s t) → T (precedes (s ∷ h) (by s) v)
  precedes_head s h v t n i e c = or_l _ _ (and_i _ _ (and_i _ _ (eqb_refl (by s)) (not_T _ (λ x. n (eqb→eq (by s) v x)))) (member_some (λ t. eqb (by t) v && conflict s t) i (and_i _ _ (eqb_of _ _ e) c)))

  precedes_filter : (f : Step V → Bool) (h : List (Step V)) (u v : ℕ) → T (precedes (filter f h) u v) → T (precedes h u v)
  precedes_filter f [] u v t = t
  precedes_filter f (s ∷ h) u v t = elim (decided (f s)) [
    | inl y ↦ elim (or_e _ _ (rw (filter_yes f s h y) at t)) [
      | inl p ↦ or_l (first && some_of (λ t. eqb (by t) v && conflict s t) h) _ (and_i first _ (and_l first _ p) (some_in_filter (and_r first _ p)))
      | inr p ↦ or_r _ _ (precedes_filter f h u v p)
    ]
    | inr n ↦ or_r _ _ (precedes_filter f h u v (rw (filter_no f s h n) at t))
  ]
    where
      first : Bool
      first = eqb (by s) u && not (eqb u v)

      some_in_filter : T (some_of (λ t. eqb (by t) v && conflict s t) (filter f h)) → T (some_of (λ t. eqb (by t) v && conflict s t) h)
      some_in_filter x = let r = some_member (λ t. eqb (by t) v && conflict s t) (filter f h) x in member_some (λ t. eqb (by t) v && conflict s t) (filter_member f h r.1).0 r.2

  -- one job executed before all others

  -- the steps of a list of jobs
  abbrev steps_of : List ℕ → List (Step V) → List (Step V)
  steps_of ns h = filter (λ s. among (by s) ns) h

  only_reads : (s : Step V) (row row' : List V) → (T (is_write s) → ⊥) → StepMakes row s row' → row ≡ row'
  only_reads (reads j e v) row row' n m = m.1
  only_reads (writes j es) row row' n m = absurd (n tt)

  abbrev Apart : ℕ → List ℕ → List (Step V) → List V → List V → Type 0
  Apart n ns h row row' = (r : List V) × Executes row (steps_by n h) r × Executes r (steps_of ns h) row'

  apart_more : (n : ℕ) (ns : List ℕ) (s : Step V) (h : List (Step V)) (row row₁ row' : List V) → (T (among n ns) → ⊥) → StepMakes row s row₁
      → (T (is_write s) → T (among (by s) (n ∷ ns))) → (T (among (by s) ns) → T (precedes (s ∷ h) (by s) n) → ⊥) → Apart n ns h row₁ row'
      → Apart n ns (s ∷ h) row row'
  apart_more n ns s h row row₁ row' new made only free (r, mine, others) = elim (decided (eqb (by s) n)) [
    | inl e ↦ (r, rw (filter_yes own s h e) (makes_one s row row₁ made mine), rw (filter_no theirs s h (λ t. new (same e t))) others)
    | inr d ↦ elim (decided (among (by s) ns)) [
      | inl a ↦
          let (r₁, mine₁, made₁) = put_off s row row₁ made mine (apart d a) in
          (r₁, rw (filter_no own s h d) mine₁, rw (filter_yes theirs s h a) (makes_one s r₁ r made₁ others))
      | inr b ↦
          let e = only_reads s row row₁ (λ w. elim (or_e _ _ (only w)) [ inl x ↦ d x | inr x ↦ b x ]) made in
          (r, rw (filter_no own s h d, e) mine, rw (filter_no theirs s h b) others)
    ]
  ]
    where
      own : Step V → Bool
      own t = eqb (by t) n

      theirs : Step V → Bool
      theirs t = among (by t) ns

      same : T (eqb (by s) n) → T (among (by s) ns) → T (among n ns)
      same e t = subst (λ (z : ℕ). T (among z ns)) (eqb→eq (by s) n e) t

      apart : (T (eqb (by s) n) → ⊥) → T (among (by s) ns) → (t : Step V) → In t (steps_by n h) → T (conflict s t) → ⊥
      apart d a t i c = let (j, e) = filter_member own h i in free a (precedes_head s h n t (λ p. d (eqb_of _ _ p)) j (eqb→eq (by t) n e) c)

  -- a job that no other precedes may be executed first
  run_first : (n : ℕ) (ns : List ℕ) → (T (among n ns) → ⊥) → (h : List (Step V)) (row row' : List V) → Executes row h row'
      → ((s : Step V) → In s h → T (is_write s) → T (among (by s) (n ∷ ns))) → ((m : ℕ) → T (among m ns) → T (precedes h m n) → ⊥)
      → Apart n ns h row row'
  run_first n ns new [] row row' none_left only free = (row, none_left, none_left)
  run_first n ns new (s ∷ h) row row' m only free =
      let (row₁, made, rest) = one_makes s h row row' m in
      apart_more n ns s h row row₁ row' new made (only s here) (free (by s)) (run_first n ns new h row₁ row' rest (λ t i. only t (there i)) (λ m a b. free m a (or_r _ _ b)))

  no_writes : (h : List (Step V)) (row row' : List V) → Executes row h row' → ((s : Step V) → In s h → T (is_write s) → ⊥) → row ≡ row'
  no_writes [] row row' none_left n = refl
  no_writes (s ∷ h) row row' m n =
      let (row₁, made, rest) = one_makes s h row row' m in
      only_reads s row row₁ (n s here) made ∙ no_writes h row₁ row' rest (λ t i. n t (there i))

  in_order_filter : (f : Step V → Bool) (h : List (Step V)) (ns : List ℕ) → InOrder h ns → InOrder (filter f h) ns
  in_order_filter f h [] o = tt
  in_order_filter f h (n ∷ ns) o = (λ m a b. o.0 m a (precedes_filter f h m n b), in_order_filter f h ns o.1)

  run_serially : (full : List (Step V)) (ns : List ℕ) (h : List (Step V)) (row row' : List V) → Executes row h row'
      → ((s : Step V) → In s h → T (is_write s) → T (among (by s) ns))
      → Distinct ns → InOrder h ns → ((m : ℕ) → T (among m ns) → steps_by m h ≡ steps_by m full) → Serially full row ns row'
  run_serially full [] h row row' made only d o same = subst (λ (r : List V). Serially full row [] r) (no_writes h row row' made only) all_run
  run_serially full (n ∷ ns) h row row' made only d o same =
      let (r, mine, others) = run_first n ns d.0 h row row' made only o.0 in
      then_run (subst (λ (ts : List (Step V)). Executes row ts r) (same n (or_l _ _ (eqb_refl n))) mine)
      (run_serially full ns (steps_of ns h) r row' others (λ s i w. (filter_member (λ s. among (by s) ns) h i).1) d.1 (in_order_filter _ h ns o.1)
      (λ m a. filter_filter (λ s. eqb (by s) m) (λ s. among (by s) ns) (λ s e. subst (λ (z : ℕ). T (among z ns)) (sym (eqb→eq (by s) m e)) a) h ∙ same m (or_r _ _ a)))

  -- steps that were executed on a row: any order that keeps their conflicts leaves the same row
  pub every_order : (steps : List (Step V)) (row₀ row : List V) → Executes row₀ steps row → (order : List ℕ) → KeepsConflicts steps order
      → Serially steps row₀ order row
  every_order steps row₀ row made order k =
      run_serially steps order steps row₀ row made (λ s i w. k.complete (by s) (member_some (of_job is_write (by s)) i (and_i _ _ (eqb_refl (by s)) w))) k.distinct k.in_order (λ m a. refl)

  -- with one more step, and with some reads left out

  pub length_put : (row : List V) (es : List (ℕ × V)) → length (put_all row es) ≡ length row
  length_put row [] = refl
  length_put row (en ∷ es) = length_put (set row en.0 en.1) es ∙ length-set row en.0 en.1

  pub executes_end : (h : List (Step V)) (s : Step V) (row row' row'' : List V) → Executes row h row' → StepMakes row' s row'' → Executes row (h ++ (s ∷ [])) row''
  executes_end [] s row row' row'' none_left m = makes_one s row row'' m none_left
  executes_end (t ∷ h) s row row' row'' w m =
      let (row₁, made, rest) = one_makes t h row row' w in
      makes_one t row row₁ made (executes_end h s row₁ row' row'' rest m)

  pub executes_filter : (f : Step V → Bool) (h : List (Step V)) (row row' : List V) → ((s : Step V) → In s h → T (is_write s) → T (f s)) → Executes row h row'
      → Executes row (filter f h) row'
  executes_filter f [] row row' n none_left = none_left
  executes_filter f (s ∷ h) row row' n w =
      let (row₁, made, rest) = one_makes s h row row' w in
      elim (decided (f s)) [
        | inl y ↦ rw (filter_yes f s h y) (makes_one s row row₁ made (executes_filter f h row₁ row' (λ t i. n t (there i)) rest))
        | inr x ↦ rw (filter_no f s h x, only_reads s row row₁ (λ u. x (n s here u)) made) (executes_filter f h row₁ row' (λ t i. n t (there i)) rest)
      ]
