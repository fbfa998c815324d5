-- How many jobs pass a test, by places and by numbers.
use Rattle.std.proofs.Common.{◌≡◌, ℕ, zero, suc, ◌+◌, ◌<◌, ◌≤◌, Bool, true, false, cond, not, T, eqb, List, [], ◌∷◌, ◌++◌, length, Some, None, filter, Option, sym, refl, ap, ◌∙◌, subst, inl, inr, arith, eqb→eq, T_not}
use lib.Dec.{eqb_refl}
use Rattle.std.proofs.lemmas.Bool.{cases_eq, eq-eqb, ne_eqb}
use Rattle.graph.specs.declared.place_set.PlaceSet.{PlaceSet}
use Rattle.graph.specs.Counted.{count}
use Rattle.graph.specs.Members.{has}
use Rattle.graph.proofs.Counting.{count_bound, count_same}
use Rattle.model.specs.Lists.{among, below, up_to, map_list, Distinct}
use Rattle.model.specs.Book as Model
use Rattle.model.specs.Begin.{is_full}
use Rattle.model.proofs.Tests.{or_e, or_l, or_r, decided, T_true, T_false, eqb_of, apart, filter_yes, filter_no}
use Rattle.model.proofs.Lists.{filter_e, filter_i, filter_lt, among_in, among_below}
use Rattle.model.proofs.First.{ascending_up_to, ascending_below, ascending_filter}
use Rattle.model.proofs.Withdrawn.{rising_distinct}
use Rattle.table.specs.declared.jobs.Job.{Job}
use Rattle.table.specs.Slots.{slot, passes, taken, same_number}
use Rattle.table.specs.Least.{number_of}
use Rattle.book.specs.declared.books.Book.{Book}
use Rattle.book.specs.View.{content}
use Rattle.book.specs.State.{model}
use Rattle.book.proofs.Founds.{passing_job, job_passes, job_numbered, slot_below}
use Rattle.book.proofs.Paths.{shows, at_job, held_here, listed, unlisted}

-- a count, by a list

module _ (f : ℕ → Bool) where
  one_longer : (xs : List ℕ) (y : ℕ) → length (filter f (xs ++ (y ∷ []))) ≡ cond (f y) 1 0 + length (filter f xs)
  one_longer [] y = elim (decided (f y)) [
    | inl t ↦ rw (filter_yes f y [] t, T_true (f y) t) refl
    | inr t ↦ rw (filter_no f y [] t, T_false (f y) t) refl
  ]
  one_longer (x ∷ xs) y = elim (decided (f x)) [
    | inl t ↦ rw (filter_yes f x (xs ++ (y ∷ [])) t, filter_yes f x xs t) (omega (arith, one_longer xs y))
    | inr t ↦ rw (filter_no f x (xs ++ (y ∷ [])) t, filter_no f x xs t) (one_longer xs y)
  ]

  count_kept : (n : ℕ) → length (filter f (below n)) ≡ count f n
  unfolding count
  count_kept zero = refl
  count_kept (suc n) = one_longer (below n) n ∙ ap (λ k. cond (f n) 1 0 + k) (count_kept n)

  count_all : (n : ℕ) → ((i : ℕ) → i < n → T (f i)) → count f n ≡ n
  unfolding count
  count_all zero h = refl
  count_all (suc n) h = rw (T_true (f n) (h n (omega arith))) (omega (arith, count_all n (λ i l. h i (omega arith))))

  count_less : (n i : ℕ) → i < n → (T (f i) → ⊥) → count f n < n
  unfolding count
  count_less zero i l h = absurd (omega arith)
  count_less (suc n) i l h = elim (decided (f n)) [
    | inl t ↦ rw (T_true (f n) t) (omega (arith, count_less n i (elim (cases_eq i n) [ inl e ↦ absurd (h (subst (λ k. T (f k)) (sym e) t)) | inr d ↦ omega arith ]) h))
    | inr t ↦ rw (T_false (f n) t) (omega (arith, count_bound f n))
  ]

-- a list without repetition is no longer than one that has its members
distinct_le : (xs ys : List ℕ) → Distinct xs → ((n : ℕ) → T (among n xs) → T (among n ys)) → length xs ≤ length ys
distinct_le [] ys d f = omega arith
distinct_le (x ∷ xs) ys d f =
    let less : length (filter (λ y. not (eqb y x)) ys) < length ys =
    filter_lt (λ y. not (eqb y x)) (among_in x ys (f x (or_l (eqb x x) (among x xs) (eqb_refl x)))) (λ t. T_not (eqb x x) t (eqb_refl x)) in
    let rest : length xs ≤ length (filter (λ y. not (eqb y x)) ys) = distinct_le xs (filter (λ y. not (eqb y x)) ys) d.1
    (λ n t. filter_i (λ y. not (eqb y x)) ys n (f n (or_r (eqb n x) (among n xs) t)) (apart n x (λ e. d.0 (subst (λ z. T (among z xs)) e t)))) in
    omega arith

module _ (h : ℕ → ℕ) where
  length_map : (xs : List ℕ) → length (map_list h xs) ≡ length xs
  length_map [] = refl
  length_map (x ∷ xs) = ap suc (length_map xs)

  map_e : (xs : List ℕ) (n : ℕ) → T (among n (map_list h xs)) → (x : ℕ) × T (among x xs) × (n ≡ h x)
  map_e [] n t = absurd t
  map_e (x ∷ xs) n t = elim (or_e (eqb n (h x)) (among n (map_list h xs)) t) [
    | inl e ↦ (x, or_l (eqb x x) (among x xs) (eqb_refl x), eqb→eq n (h x) e)
    | inr u ↦ let r = map_e xs n u in (r.0, or_r (eqb r.0 x) (among r.0 xs) r.1, r.2)
  ]

  map_i : (xs : List ℕ) (x : ℕ) → T (among x xs) → T (among (h x) (map_list h xs))
  map_i [] x t = absurd t
  map_i (y ∷ xs) x t = elim (or_e (eqb x y) (among x xs) t) [
    | inl e ↦ or_l (eqb (h x) (h y)) (among (h x) (map_list h xs)) (eqb_of (h x) (h y) (ap h (eqb→eq x y e)))
    | inr u ↦ or_r (eqb (h x) (h y)) (among (h x) (map_list h xs)) (map_i xs x u)
  ]

  distinct_map : (xs : List ℕ) → Distinct xs → ((x y : ℕ) → T (among x xs) → T (among y xs) → h x ≡ h y → x ≡ y) → Distinct (map_list h xs)
  distinct_map [] d f = tt
  distinct_map (x ∷ xs) d f = (
    λ t.
        let r = map_e xs (h x) t in
        d.0 (subst (λ z. T (among z xs)) (sym (f x r.0 (or_l (eqb x x) (among x xs) (eqb_refl x)) (or_r (eqb r.0 x) (among r.0 xs) r.1) r.2)) r.1),
    distinct_map xs d.1 (λ y z p q. f y z (or_r (eqb y x) (among y xs) p) (or_r (eqb z x) (among z xs) q)),
  )

-- as many numbers as places

module _ (b : Book) (f : Job → Bool) (g : Model.Job → Bool) (like : (j : Job) → g (content j) ≡ f j) where
  abbrev here : ℕ → Bool
  here i = passes f (slot b.table i)

  abbrev number : ℕ → ℕ
  number i = number_of (slot b.table i)

  abbrev numbers : List ℕ
  numbers = map_list number (filter here (below 64))

  one_place : (x y : ℕ) → T (among x (filter here (below 64))) → T (among y (filter here (below 64))) → number x ≡ number y → x ≡ y
  one_place x y p q e =
      let j = passing_job f (slot b.table x) (filter_e here (below 64) x p).1 in
      let l = passing_job f (slot b.table y) (filter_e here (below 64) y q).1 in
      let same : l.0.number ≡ j.0.number = sym (ap number_of l.1) ∙ sym e ∙ ap number_of j.1 in
      b.apart x y (subst (λ o. T (same_number o (slot b.table y))) (sym j.1) (job_numbered j.0.number (slot b.table y) l.0 l.1 same))

  into : (n : ℕ) → T (among n (Model.jobs_that g (model b))) → T (among n numbers)
  into n t =
      let h : T (Model.holds g ((model b).job n)) = unlisted b g n t in
      let r = (shows b).placed n (held_of ((model b).job n) h) in
      let i : ℕ = r.0 in
      let p : T (here i) = job_passes f (slot b.table i) r.1 r.2 (subst T (ap (λ m. Model.holds g ((model b).job m)) (sym r.3) ∙ at_job b g i r.1 r.2 ∙ like r.1) h) in
      subst (λ m. T (among m numbers)) (ap number_of r.2 ∙ r.3)
      (map_i number (filter here (below 64)) i (filter_i here (below 64) i (among_below 64 i (slot_below f b.table i p)) p))
    where
      held_of : (o : Option Model.Job) → T (Model.holds g o) → T (Model.holds (λ j. true) o)
      held_of None t = t
      held_of (Some x) t = tt

  onto : (n : ℕ) → T (among n numbers) → T (among n (Model.jobs_that g (model b)))
  onto n t =
      let r = map_e number (filter here (below 64)) n t in
      let j = passing_job f (slot b.table r.0) (filter_e here (below 64) r.0 r.1).1 in
      let e : n ≡ j.0.number = r.2 ∙ ap number_of j.1 in
      subst (λ m. T (among m (Model.jobs_that g (model b)))) (sym e)
      (listed b g j.0.number (held_here b r.0 j.0 j.1) (subst T (sym (at_job b g r.0 j.0 j.1 ∙ like j.0)) j.2))

  pub as_many : length (Model.jobs_that g (model b)) ≡ count here 64
  as_many =
      let up : length (Model.jobs_that g (model b)) ≤ length numbers =
      distinct_le (Model.jobs_that g (model b)) numbers (rising_distinct (Model.jobs_that g (model b)) (ascending_filter ◌<◌ (λ n. Model.holds g ((model b).job n)) (up_to b.last) (ascending_up_to b.last))) into in
      let down : length numbers ≤ length (Model.jobs_that g (model b)) =
      distinct_le numbers (Model.jobs_that g (model b)) (distinct_map number (filter here (below 64)) (rising_distinct (filter here (below 64)) (ascending_filter ◌<◌ here (below 64) (ascending_below 64))) one_place) onto in
      let same = length_map number (filter here (below 64)) in
      let counted = count_kept here 64 in
      omega arith

module _ (b : Book) where
  pub active_many : (s : PlaceSet) → ((i : ℕ) → has s i ≡ passes (λ j. not j.finished) (slot b.table i)) → length (Model.active (model b)) ≡ count (has s) 64
  active_many s is = as_many b (λ j. not j.finished) (λ j. not j.finished) (λ j. refl) ∙ sym (count_same (has s) _ 64 (λ i l. is i))

  pub held_many : (s : PlaceSet) → ((i : ℕ) → has s i ≡ taken (slot b.table i)) → length (Model.held (model b)) ≡ count (has s) 64
  held_many s is = as_many b (λ j. true) (λ j. true) (λ j. refl) ∙ sym (count_same (has s) _ 64 (λ i l. is i))

  pub full : ((i : ℕ) → i < 64 → T (taken (slot b.table i))) → is_full (model b) ≡ true
  full all = eq-eqb (length (Model.held (model b))) 64 (as_many b (λ j. true) (λ j. true) (λ j. refl) ∙ count_all (λ i. taken (slot b.table i)) 64 all)

  pub not_full : (i : ℕ) → i < 64 → slot b.table i ≡ None → is_full (model b) ≡ false
  not_full i l e =
      let less = count_less (λ i. taken (slot b.table i)) 64 i l (λ t. subst (λ o. T (taken o)) e t) in
      let many = as_many b (λ j. true) (λ j. true) (λ j. refl) in
      ne_eqb (length (Model.held (model b))) 64 (λ q. omega arith)
