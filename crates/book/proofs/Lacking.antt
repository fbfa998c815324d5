-- Where a finished job lacks a stand-in, seen from one active job, by places.
use Rattle.std.proofs.Common.{◌≡◌, ℕ, ◌<◌, Bool, true, false, not, ◌&&◌, ◌||◌, T, eqb, Some, sym, refl, ap, ◌∙◌, subst, ap₂, T_not}
use lib.Dec.{not_T}
use Rattle.graph.specs.declared.place_set.PlaceSet.{PlaceSet}
use Rattle.graph.specs.Members.{has}
use Rattle.graph.specs.Walk.{Answers}
use Rattle.model.specs.Book as Model
use Rattle.model.specs.Forgetting.{as_strongly, has_stand_in}
use Rattle.model.specs.Blocker.{lacks}
use Rattle.model.proofs.Tests.{and_i, and_l, and_r}
use Rattle.model.proofs.Lists.{some_i, some_e}
use Rattle.table.specs.declared.jobs.Job.{Job}
use Rattle.table.specs.Slots.{slot, bit, passes}
use Rattle.table.specs.Touching.{touched}
use Rattle.book.specs.declared.books.Book.{Book}
use Rattle.book.specs.Lacks.{as_strong}
use Rattle.book.specs.State.{model}
use Rattle.book.proofs.Founds.{passing_job, job_numbered}
use Rattle.book.proofs.Lifts.{same_test}
use Rattle.book.proofs.Moves.{lone}
use Rattle.book.proofs.Paths.{shows, at_job, held_here, listed, unlisted, walk_tight, tight_walk}

-- the finished job at the place i, and what an active job at the place s reaches by tight paths
pub record Viewed (b : Book) (i : ℕ) (old : Job) (s : ℕ) (viewer : Job) (reach others : PlaceSet) : Type 0 where
  pub at : slot b.table i ≡ Some old
  pub start : slot b.table s ≡ Some viewer
  pub done : PlaceSet
  pub done_is : (p : ℕ) → has done p ≡ passes (λ j. j.finished) (slot b.table p)
  pub reached : (to : ℕ) → Answers (bit b.table) (has done) s to (has reach to)
  pub others_are : (k : ℕ) → has others k ≡ ((has reach k && has done k) && not (eqb k i))

module _ (b : Book) (i : ℕ) (old : Job) (s : ℕ) (viewer : Job) (reach others : PlaceSet) (W : Viewed b i old s viewer reach others) where
  tight_in : (k : ℕ) (y : Job) → slot b.table k ≡ Some y → T (has reach k) → T (Model.tight_path (model b) viewer.number y.number)
  tight_in k y f t = walk_tight b s k viewer y W.start f W.done W.done_is ((W.reached k).0 t)

  tight_out : (k : ℕ) (y : Job) → slot b.table k ≡ Some y → T (Model.tight_path (model b) viewer.number y.number) → T (has reach k)
  tight_out k y f t = (W.reached k).1 (tight_walk b s k viewer y W.start f W.done W.done_is t)

  same_job : (k : ℕ) (y : Job) → slot b.table k ≡ Some y → eqb y.number old.number ≡ eqb k i
  same_job = same_test (slot b.table) (slot b.table) (bit b.table) (bit b.table) (model b) (shows b) i old.number
      (lone b.table b.apart old.number i (job_numbered old.number (slot b.table i) old W.at refl)) old W.at refl

  strong_is : (e k : ℕ) (y : Job) → slot b.table k ≡ Some y → as_strongly (model b) y.number old.number e ≡ passes (as_strong old e) (slot b.table k)
  strong_is e k y f =
      ap₂ ◌||◌ (at_job b (λ j. j.has_written e) k y f) (ap₂ (λ u v. not u && v) (at_job b (λ j. j.has_written e) i old W.at) (at_job b (λ j. j.has_read e) k y f))
      ∙ sym (ap (passes (as_strong old e)) f)

  touched_is : (e : ℕ) → Model.touched_by (model b) old.number e ≡ touched e old
  touched_is e = ap₂ ◌||◌ (at_job b (λ j. j.has_read e) i old W.at) (at_job b (λ j. j.has_written e) i old W.at)

  abbrev stands_in : ℕ → ℕ → Bool
  stands_in e k = not (eqb k old.number) && (Model.tight_path (model b) viewer.number k && as_strongly (model b) k old.number e)

  -- a stand-in is one of the others
  stand_in : (e k : ℕ) → T (has others k) → T (passes (as_strong old e) (slot b.table k)) → T (has_stand_in (model b) old.number viewer.number e)
  stand_in e k m t =
      let u : T ((has reach k && has W.done k) && not (eqb k i)) = subst T (W.others_are k) m in
      let rd : T (has reach k && has W.done k) = and_l (has reach k && has W.done k) (not (eqb k i)) u in
      let y = passing_job (as_strong old e) (slot b.table k) t in
      let n : ℕ = y.0.number in
      let fin : T (Model.is_finished (model b) n) = subst T (W.done_is k ∙ ap (passes (λ j. j.finished)) y.1 ∙ sym (at_job b (λ j. j.finished) k y.0 y.1)) (and_r (has reach k) (has W.done k) rd) in
      some_i (stands_in e) (Model.finished (model b)) n (listed b (λ j. j.finished) n (held_here b k y.0 y.1) fin)
      (and_i _ _ (subst (λ v. T (not v)) (sym (same_job k y.0 y.1)) (and_r (has reach k && has W.done k) (not (eqb k i)) u))
      (and_i _ _ (tight_in k y.0 y.1 (and_l (has reach k) (has W.done k) rd)) (subst T (sym (strong_is e k y.0 y.1)) t)))

  stand_out : (e : ℕ) → T (has_stand_in (model b) old.number viewer.number e) → (k : ℕ) × T (has others k) × T (passes (as_strong old e) (slot b.table k))
  stand_out e t =
      let r = some_e (stands_in e) (Model.finished (model b)) t in
      let n : ℕ = r.0 in
      let c : T (Model.tight_path (model b) viewer.number n && as_strongly (model b) n old.number e) = and_r (not (eqb n old.number)) _ r.2 in
      let fin : T (Model.is_finished (model b) n) = unlisted b (λ j. j.finished) n r.1 in
      let z = (shows b).placed n (Rattle.model.proofs.BookGraph.finished_held (model b) n fin) in
      let k : ℕ = z.0 in
      let y : Job = z.1 in
      let there : T (has reach k) = tight_out k y z.2 (subst (λ m. T (Model.tight_path (model b) viewer.number m)) (sym z.3) (and_l (Model.tight_path (model b) viewer.number n) _ c)) in
      let done : T (has W.done k) = subst T (sym (W.done_is k ∙ ap (passes (λ j. j.finished)) z.2 ∙ sym (at_job b (λ j. j.finished) k y z.2))) (subst (λ m. T (Model.is_finished (model b) m)) (sym z.3) fin) in
      let other : T (not (eqb k i)) = subst (λ v. T (not v)) (ap (λ m. eqb m old.number) (sym z.3) ∙ same_job k y z.2) (and_l (not (eqb n old.number)) _ r.2) in (
        k,
        subst T (sym (W.others_are k)) (and_i (has reach k && has W.done k) (not (eqb k i)) (and_i (has reach k) (has W.done k) there done) other),
        subst T (strong_is e k y z.2) (subst (λ m. T (as_strongly (model b) m old.number e)) (sym z.3) (and_r (Model.tight_path (model b) viewer.number n) _ c)),
      )

  abbrev lacking : ℕ → Bool
  lacking e = lacks (model b) old.number (viewer.number, e)

  lacking_parts : (e : ℕ) → T (lacking e) → T (Model.tight_path (model b) viewer.number old.number) × T (Model.touched_by (model b) old.number e) × (T (has_stand_in (model b) old.number viewer.number e) → ⊥)
  lacking_parts e t =
      let p : Bool = Model.tight_path (model b) viewer.number old.number in
      let r : T (Model.touched_by (model b) old.number e && not (has_stand_in (model b) old.number viewer.number e)) = and_r p _ t in
      (and_l p _ t, and_l (Model.touched_by (model b) old.number e) _ r, T_not _ (and_r (Model.touched_by (model b) old.number e) _ r))

  pub not_reached : has reach i ≡ false → (e : ℕ) → T (lacking e) → ⊥
  not_reached off e t = subst T off (tight_out i old W.at (lacking_parts e t).0)

  -- the old job touched each setting that lacks, and it touched none but the book's
  pub touched_there : (e : ℕ) → T (lacking e) → T (touched e old)
  touched_there e t = subst T (touched_is e) (lacking_parts e t).1

  pub touched_below : (e : ℕ) → T (touched e old) → e < b.settings
  touched_below e t = b.within old.number e (subst T (sym (touched_is e)) t)

  pub stood_in : (e k : ℕ) → T (has others k) → T (passes (as_strong old e) (slot b.table k)) → T (lacking e) → ⊥
  stood_in e k m s t = (lacking_parts e t).2 (stand_in e k m s)

  pub is_lacking : (e : ℕ) → has reach i ≡ true → T (touched e old) → ((k : ℕ) → T (has others k) → T (passes (as_strong old e) (slot b.table k)) → ⊥) → T (lacking e)
  is_lacking e on u none =
      and_i _ _ (tight_in i old W.at (subst T (sym on) tt))
      (and_i _ _ (subst T (sym (touched_is e)) u) (not_T _ (λ t. let r = stand_out e t in none r.0 r.1 r.2)))
