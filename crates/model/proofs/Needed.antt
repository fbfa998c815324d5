-- A finished job that may not be forgotten is needed: after some withdrawals, one step is cut off that is accepted where the job was forgotten first.
use Rattle.std.proofs.Common.{◌≡◌, ℕ, zero, suc, ◌<◌, Bool, true, false, not, ◌&&◌, T, eqb, ◌⊎◌, List, [], ◌∷◌, length, is_ok, Some, Ok, Err, filter, Result, sym, refl, ◌∙◌, subst, inl, inr, arith, T_not}
use lib.Dec.{not_T}
use Rattle.std.specs.List.{slice_get}
use Rattle.model.specs.declared.refusals.Refusal.{Refusal}
use Rattle.model.specs.declared.refusals.Refusal.TheVariants.{Circle}
use Rattle.model.specs.Lists.{among, some_of, up_to, Distinct}
use Rattle.model.specs.Kinds.{Kind}
use Rattle.model.specs.Book.{Book, holds, is_held, is_active, is_finished, read_by, written_by, touched_by, held, active, finished, path, tight_path, forgotten}
use Rattle.model.specs.Forgetting.{as_strongly, has_stand_in, may_forget}
use Rattle.model.specs.Possible.{Proper}
use Rattle.model.specs.Calls.{read_closes_circle, write_closes_circle, read_answer, write_answer}
use Rattle.model.specs.Laws.{Withdraws, Needed}
use Rattle.model.specs.Laws.Needed.{by_read, by_write}
use Rattle.model.proofs.Tests.{and_l, and_r, and_i, or_e, or_l, or_r, decided, apart, apart_e}
use Rattle.model.proofs.Lists.{some_i, some_e, filter_e, filter_i}
use Rattle.model.proofs.First.{ascending_filter, ascending_up_to}
use Rattle.model.proofs.Walks.{Way, way_bind, way_from, Arrow}
use Rattle.model.proofs.Walks.Way.{last, next}
use Rattle.model.proofs.Graphs.{TightWay}
use Rattle.model.proofs.BookGraph.{book_graph, finished_held, active_in, active_out, listed, tight_path_in, tight_path_out, path_in, path_out}
use Rattle.model.proofs.Changes.{job_apart, gone_e}
use Rattle.model.proofs.Possible.{forgotten_way, proper_forgotten}
use Rattle.model.proofs.Answers.{read_decides, write_decides}
use Rattle.model.proofs.Blocker.{some_lacking}
use Rattle.model.proofs.Withdrawn.{withdrawn, withdraws, rising_distinct, proper_withdrawn, withdrawn_settings, withdrawn_job, withdrawn_left, withdrawn_less, withdrawn_more}
use Rattle.model.proofs.OneEntry.{one_order, one_entry}

-- an answer by the test of a closing step

answered_circle : {A : Type 0} (r : Result A Refusal) (x : A) (c : Bool) → ◌≡◌ {A = Result A Refusal} r (elim c [ true ↦ Err Circle | false ↦ Ok x ]) → T c
    → r ≡ Err Circle
answered_circle r x true e t = e
answered_circle r x false e t = absurd t

answered_ok : {A : Type 0} (r : Result A Refusal) (x : A) (c : Bool) → ◌≡◌ {A = Result A Refusal} r (elim c [ true ↦ Err Circle | false ↦ Ok x ]) → (T c → ⊥)
    → T (is_ok r)
answered_ok r x true e f = absurd (f tt)
answered_ok r x false e f = subst (λ z. T (is_ok z)) (sym e) tt

value_below : {V : Type 0} (row : List V) (e : ℕ) → e < length row → (v : V) × (slice_get row e ≡ Some v)
value_below [] e h = absurd (omega arith)
value_below (x ∷ xs) zero h = (x, refl)
value_below (x ∷ xs) (suc e) h = value_below xs e (omega arith)

-- all active jobs but j
abbrev all_but : Book → ℕ → List ℕ
all_but b j = filter (λ n. not (eqb n j)) (active b)

-- whether a job other than j that j reaches passes a test
abbrev meets : Book → ℕ → (ℕ → Bool) → Bool
meets b j hit = some_of (λ k. not (eqb k j) && (hit k && path b j k)) (held b)

module _ (b : Book) (P : Proper b) (i j : ℕ) (fin : T (is_finished b i)) (act : T (is_active b j)) where
  other_active : (m : ℕ) → T (among m (all_but b j)) → T (is_active b m)
  other_active m t = (filter_e (is_active b) (up_to b.last) m (filter_e (λ n. not (eqb n j)) (active b) m t).0).1

  finished_stays : (m : ℕ) → T (is_finished b m) → T (among m (all_but b j)) → ⊥
  finished_stays m f t = (active_out (b.job m) (other_active m t)).1 f

  j_stays : T (among j (all_but b j)) → ⊥
  j_stays t = apart_e j j (filter_e (λ n. not (eqb n j)) (active b) j t).1 refl

  differ : i ≡ j → ⊥
  differ e = (active_out (b.job j) act).1 (subst (λ n. T (is_finished b n)) e fin)

  held_still : (m : ℕ) → T (is_held b m) → (T (among m (all_but b j)) → ⊥) → T (is_held (withdrawn b (all_but b j)) m)
  held_still m t d = subst (λ o. T (holds (λ x. true) o)) (sym (withdrawn_job b (all_but b j) m d)) t

  way_stays : {p q : ℕ} → (T (among p (all_but b j)) → ⊥) → (T (among q (all_but b j)) → ⊥) → TightWay (book_graph b) p q
      → Way (Arrow (withdrawn b (all_but b j)).arrow) (λ n. T (is_held (withdrawn b (all_but b j)) n)) p q
  way_stays d e (last {p} {q} t) = last (withdrawn_more b (all_but b j) p q d e t)
  way_stays d e (next {p} {r} {q} t f w) =
      next (withdrawn_more b (all_but b j) p r d (finished_stays r f) t) (held_still r (finished_held b r f) (finished_stays r f)) (way_stays (finished_stays r f) e w)

  -- the other active jobs can be withdrawn, from the book and from the book that has forgotten i

  different : Distinct (all_but b j)
  different = rising_distinct (all_but b j) (ascending_filter ◌<◌ (λ n. not (eqb n j)) (active b) (ascending_filter ◌<◌ (is_active b) (up_to b.last) (ascending_up_to b.last)))

  withdraws_before : Withdraws b (all_but b j) (withdrawn b (all_but b j))
  withdraws_before = withdraws b (all_but b j) different other_active

  withdraws_after : Withdraws (forgotten b i) (all_but b j) (withdrawn (forgotten b i) (all_but b j))
  withdraws_after = withdraws (forgotten b i) (all_but b j) different (λ m t.
      let a = other_active m t in
      subst (λ o. T (holds (λ x. not x.finished) o)) (sym (job_apart b i m (λ e. (active_out (b.job m) a).1 (subst (λ n. T (is_finished b n)) (sym e) fin)))) a)

  -- in the book as it is, j meets i
  meets_before : TightWay (book_graph b) j i → (hit : ℕ → Bool) → T (hit i) → T (meets (withdrawn b (all_but b j)) j hit)
  meets_before way hit h =
      let c : Book = withdrawn b (all_but b j) in
      let proper : Proper c = proper_withdrawn b (all_but b j) P in
      let reached : T (path c j i) = path_in c proper (way_stays j_stays (finished_stays i fin) way) in
      some_i (λ k. not (eqb k j) && (hit k && path c j k)) (held c) i
      (let h = held_still i (finished_held b i fin) (finished_stays i fin) in listed c proper (is_held c) i h h)
      (and_i (not (eqb i j)) (hit i && path c j i) (apart i j differ) (and_i (hit i) (path c j i) h reached))

  -- with i forgotten first, whatever else is left is finished and other than i
  abbrev after : Book
  after = withdrawn (forgotten b i) (all_but b j)

  left : (m : ℕ) → T (is_held after m) → (m ≡ j → ⊥) → (after.job m ≡ b.job m) × T (is_finished b m) × (m ≡ i → ⊥)
  left m t d =
      let stays = withdrawn_left (λ x. true) (forgotten b i) (all_but b j) m t in
      let same : after.job m ≡ (forgotten b i).job m = withdrawn_job (forgotten b i) (all_but b j) m stays in
      let old = gone_e (λ x. true) b i m (subst (λ o. T (holds (λ x. true) o)) same t) in
      (same ∙ job_apart b i m old.1, go stays old.0 (decided (is_finished b m)), old.1)
    where
      go : (T (among m (all_but b j)) → ⊥) → T (is_held b m) → T (is_finished b m) ⊎ (T (is_finished b m) → ⊥) → T (is_finished b m)
      go stays h (inl f) = f
      go stays h (inr f) =
          let a : T (is_active b m) = active_in (b.job m) h f in
          absurd (stays (filter_i (λ n. not (eqb n j)) (active b) m (listed b P (is_active b) m h a) (apart m j d)))

  reached_before : (m : ℕ) → T (path after j m) → T (tight_path b j m)
  reached_before m t =
      tight_path_in b P (way_bind
      (λ p q x. forgotten_way b i (λ n. T (is_finished b n)) fin p q (withdrawn_less (forgotten b i) (all_but b j) p q x))
      (λ n x. (left n x.0 x.1).1)
      (way_from j (path_out after ((proper_withdrawn (forgotten b i) (all_but b j) (proper_forgotten b i P))) t)))

  meets_after : (hit : ℕ → Bool)
      → ((m : ℕ) → T (hit m) → after.job m ≡ b.job m → (m ≡ i → ⊥) → T (is_finished b m) → T (tight_path b j m) → ⊥)
      → T (meets after j hit) → ⊥
  meets_after hit none t =
      let r = some_e (λ k. not (eqb k j) && (hit k && path after j k)) (held after) t in
      let m : ℕ = r.0 in
      let is : T (is_held after m) = (filter_e (is_held after) (up_to after.last) m r.1).1 in
      let d = apart_e m j (and_l (not (eqb m j)) (hit m && path after j m) r.2) in
      let both : T (hit m && path after j m) = and_r (not (eqb m j)) (hit m && path after j m) r.2 in
      let l = left m is d in
      none m (and_l (hit m) (path after j m) both) l.0 l.2 l.1 (reached_before m (and_r (hit m) (path after j m) both))

-- the job j, the setting e that i touches, and no stand-in for i there
module _ {V : Type 0} (k : Kind V) (b : Book) (row : List V) (P : Proper b) (fits : length row ≡ b.settings) (i j : ℕ) (fin : T (is_finished b i)) (act : T (is_active b j))
    (way : TightWay (book_graph b) j i) (e : ℕ) (low : e < b.settings) (v : V) (at : slice_get row e ≡ Some v) (bare : T (has_stand_in b i j e) → ⊥) where
  abbrev gone : List ℕ
  gone = all_but b j

  fits_before : length row ≡ (withdrawn b gone).settings
  fits_before = fits ∙ sym (withdrawn_settings b gone)

  fits_after : length row ≡ (withdrawn (forgotten b i) gone).settings
  fits_after = fits ∙ sym (withdrawn_settings (forgotten b i) gone)

  i_same : (withdrawn b gone).job i ≡ b.job i
  i_same = withdrawn_job b gone i (finished_stays b P i j fin act i fin)

  act_before : T (is_active (withdrawn b gone) j)
  act_before = subst (λ o. T (holds (λ x. not x.finished) o)) (sym (withdrawn_job b gone j (j_stays b P i j fin act))) act

  act_after : T (is_active (withdrawn (forgotten b i) gone) j)
  act_after =
      let d : j ≡ i → ⊥ = λ t. differ b P i j fin act (sym t) in
      subst (λ o. T (holds (λ x. not x.finished) o)) (sym (withdrawn_job (forgotten b i) gone j (j_stays b P i j fin act) ∙ job_apart b i j d)) act

  -- what j reaches with i forgotten does not touch e as strongly as i
  weaker : (m : ℕ) → (m ≡ i → ⊥) → T (is_finished b m) → T (tight_path b j m) → T (as_strongly b m i e) → ⊥
  weaker m d f t s =
      bare (some_i (λ n. not (eqb n i) && (tight_path b j n && as_strongly b n i e)) (finished b) m (listed b P (is_finished b) m (finished_held b m f) f)
      (and_i (not (eqb m i)) (tight_path b j m && as_strongly b m i e) (apart m i d) (and_i (tight_path b j m) (as_strongly b m i e) t s)))

  needed_by_read : T (written_by b i e) → Needed k b row i
  needed_by_read w =
      let c : Book = withdrawn b gone in
      let c' : Book = withdrawn (forgotten b i) gone in
      let closes : T (read_closes_circle c j e) = meets_before b P i j fin act way (λ n. written_by c n e) (subst (λ o. T (holds (λ x. x.has_written e) o)) (sym i_same) w) in
      let open_still : T (read_closes_circle c' j e) → ⊥ = meets_after b P i j fin act (λ n. written_by c' n e)
      (λ m h same d f t. weaker m d f t (or_l (written_by b m e) (not (written_by b i e) && read_by b m e) (subst (λ o. T (holds (λ x. x.has_written e) o)) same h))) in
      by_read gone c c' j e (withdraws_before b P i j fin act) (withdraws_after b P i j fin act)
      (answered_circle (read_answer c row j e) v (read_closes_circle c j e) (read_decides c row j fits_before act_before e v at) closes)
      (answered_ok (read_answer c' row j e) v (read_closes_circle c' j e) (read_decides c' row j fits_after act_after e v at) open_still)

  touch_i : (c : Book) → c.job i ≡ b.job i → T (read_by b i e) → T (some_of (touched_by c i) (e ∷ []))
  touch_i c same r = or_l (touched_by c i e) false (or_l (read_by c i e) (written_by c i e) (subst (λ o. T (holds (λ x. x.has_read e) o)) (sym same) r))

  touch_b : (c : Book) (m : ℕ) → c.job m ≡ b.job m → T (some_of (touched_by c m) (e ∷ [])) → T (read_by b m e) ⊎ T (written_by b m e)
  touch_b c m same t = go (or_e (touched_by c m e) false t)
    where
      go : T (touched_by c m e) ⊎ T false → T (read_by b m e) ⊎ T (written_by b m e)
      go (inr x) = absurd x
      go (inl x) = elim (or_e (read_by c m e) (written_by c m e) x) [
        | inl r ↦ inl (subst (λ o. T (holds (λ y. y.has_read e) o)) same r)
        | inr w ↦ inr (subst (λ o. T (holds (λ y. y.has_written e) o)) same w)
      ]

  needed_by_write : (T (written_by b i e) → ⊥) → T (read_by b i e) → Needed k b row i
  needed_by_write nw r =
      let c : Book = withdrawn b gone in
      let c' : Book = withdrawn (forgotten b i) gone in
      let low_c : e < c.settings = subst (λ n. e < n) (sym (withdrawn_settings b gone)) low in
      let low_c' : e < c'.settings = subst (λ n. e < n) (sym (withdrawn_settings (forgotten b i) gone)) low in
      let order : List ℕ = one_order k e v in
      let closes : T (write_closes_circle c j (e ∷ [])) = meets_before b P i j fin act way (λ n. some_of (touched_by c n) (e ∷ [])) (touch_i c i_same r) in
      let open_still : T (write_closes_circle c' j (e ∷ [])) → ⊥ = meets_after b P i j fin act (λ n. some_of (touched_by c' n) (e ∷ [])) (λ m h same d f t. weaker m d f t (strong m (touch_b c' m same h))) in
      by_write gone c c' j order (withdraws_before b P i j fin act) (withdraws_after b P i j fin act)
      (answered_circle (write_answer k c row j order) tt (write_closes_circle c j (e ∷ [])) (write_decides c row j fits_before act_before k order ((e, v) ∷ []) (one_entry k e c.settings v low_c)) closes)
      (answered_ok (write_answer k c' row j order) tt (write_closes_circle c' j (e ∷ [])) (write_decides c' row j fits_after act_after k order ((e, v) ∷ []) (one_entry k e c'.settings v low_c')) open_still)
    where
      strong : (m : ℕ) → T (read_by b m e) ⊎ T (written_by b m e) → T (as_strongly b m i e)
      strong m (inr w) = or_l (written_by b m e) (not (written_by b i e) && read_by b m e) w
      strong m (inl x) = or_r (written_by b m e) (not (written_by b i e) && read_by b m e) (and_i (not (written_by b i e)) (read_by b m e) (not_T (written_by b i e) nw) x)

  needed_at : T (touched_by b i e) → Needed k b row i
  needed_at t = go (decided (written_by b i e)) (or_e (read_by b i e) (written_by b i e) t)
    where
      go : T (written_by b i e) ⊎ (T (written_by b i e) → ⊥) → T (read_by b i e) ⊎ T (written_by b i e) → Needed k b row i
      go (inl w) x = needed_by_read w
      go (inr n) (inl r) = needed_by_write n r
      go (inr n) (inr w) = absurd (n w)

-- a finished job of a proper book that may not be forgotten is needed
pub needed_in : {V : Type 0} (k : Kind V) (b : Book) (row : List V) → Proper b → length row ≡ b.settings → (i : ℕ) → T (is_finished b i) → (T (may_forget b i) → ⊥)
    → Needed k b row i
needed_in k b row P fits i fin kept =
    let r = some_lacking b i fin kept in
    let j : ℕ = r.0 in
    let e : ℕ = r.1 in
    let act : T (is_active b j) = (filter_e (is_active b) (up_to b.last) j r.2.0).1 in
    let reached : T (tight_path b j i) = and_l (tight_path b j i) (touched_by b i e && not (has_stand_in b i j e)) r.2.2 in
    let rest : T (touched_by b i e && not (has_stand_in b i j e)) = and_r (tight_path b j i) (touched_by b i e && not (has_stand_in b i j e)) r.2.2 in
    let value = value_below row e (subst (λ n. e < n) (sym fits) r.2.1) in
    needed_at k b row P fits i j fin act (tight_path_out b P reached) e r.2.1 value.0 value.1
    (T_not (has_stand_in b i j e) (and_r (touched_by b i e) (not (has_stand_in b i j e)) rest)) (and_l (touched_by b i e) (not (has_stand_in b i j e)) rest)
