-- The active jobs by rising number, from the places that hold them.
use Rattle.std.proofs.Common.{◌≡◌, ℕ, ◌<◌, ◌≤◌, Bool, true, false, not, T, ltb, Some, None, Option, sym, ap, ◌∙◌, subst, arith, ltb→lt, lt→ltb}
use Rattle.graph.specs.declared.place_set.PlaceSet.{PlaceSet}
use Rattle.graph.specs.Members.{has}
use Rattle.model.specs.Lists.{among}
use Rattle.model.specs.Book as Model
use Rattle.model.proofs.Tests.{and_i, and_l, and_r}
use Rattle.model.proofs.BookGraph.{active_out}
use Rattle.table.specs.declared.jobs.Job.{Job}
use Rattle.table.specs.Slots.{slot, passes}
use Rattle.table.specs.Least.{above, eligible, number_of, Least}
use Rattle.book.specs.declared.books.Book.{Book}
use Rattle.book.specs.View.{content}
use Rattle.book.specs.State.{model}
use Rattle.book.proofs.Founds.{job_passes}
use Rattle.book.proofs.Paths.{shows, at_job, held_here, listed, unlisted}
use Rattle.book.proofs.Wholes.{possible}

-- the number of an active job is not 0
pub active_from_one : (b : Book) (n : ℕ) → T (among n (Model.active (model b))) → 0 < n
active_from_one b n t = let r = (possible b).proper.ranged n (active_out ((model b).job n) (unlisted b (λ j. not j.finished) n t)).0 in let one = r.0 in omega arith

-- f says by places, and g by numbers, which jobs are meant
module _ (b : Book) (f : Job → Bool) (g : Model.Job → Bool) (like : (j : Job) → g (content j) ≡ f j)
    (set : PlaceSet) (is : (i : ℕ) → has set i ≡ passes f (slot b.table i)) (after : ℕ) where
  held_of : (o : Option Model.Job) → T (Model.holds g o) → T (Model.holds (λ j. true) o)
  held_of None t = t
  held_of (Some x) t = tt

  -- a job that is meant, with a greater number, is at a place
  at_place : (n : ℕ) → T (among n (Model.jobs_that g (model b))) → after < n
      → (i : ℕ) × (x : Job) × (slot b.table i ≡ Some x) × (x.number ≡ n) × T (eligible b.table set after i)
  at_place n t l =
      let h : T (Model.holds g ((model b).job n)) = unlisted b g n t in
      let r = (shows b).placed n (held_of ((model b).job n) h) in
      let p : T (f r.1) = subst T (ap (λ m. Model.holds g ((model b).job m)) (sym r.3) ∙ at_job b g r.0 r.1 r.2 ∙ like r.1) h in (
        r.0,
        r.1,
        r.2,
        r.3,
        and_i (has set r.0) (above after (slot b.table r.0)) (subst T (sym (is r.0)) (job_passes f (slot b.table r.0) r.1 r.2 p))
            (job_passes (λ j. ltb after j.number) (slot b.table r.0) r.1 r.2 (lt→ltb after r.1.number (subst (λ m. after < m) (sym r.3) l))),
      )

  pub none_later : ((i : ℕ) → eligible b.table set after i ≡ false) → (n : ℕ) → T (among n (Model.jobs_that g (model b))) → after < n → ⊥
  none_later none n t l = let r = at_place n t l in subst T (none r.0) r.4

  module _ (i : ℕ) (x : Job) (here : slot b.table i ≡ Some x) (L : Least (eligible b.table set after) (λ k. number_of (slot b.table k)) i) where
    pub later : after < x.number
    later = ltb→lt after x.number (subst (λ (o : Option Job). T (above after o)) here (and_r (has set i) (above after (slot b.table i)) L.passing))

    pub passing : T (f x)
    passing = subst (λ (o : Option Job). T (passes f o)) here (subst T (is i) (and_l (has set i) (above after (slot b.table i)) L.passing))

    pub next_listed : T (among x.number (Model.jobs_that g (model b)))
    next_listed = listed b g x.number (held_here b i x here) (subst T (sym (at_job b g i x here ∙ like x)) passing)

    pub next_given : x.number ≤ b.last
    next_given = ((possible b).proper.ranged x.number (held_here b i x here)).1

    pub next_least : (n : ℕ) → T (among n (Model.jobs_that g (model b))) → after < n → x.number ≤ n
    next_least n t l =
        let r = at_place n t l in
        let least : number_of (slot b.table i) ≤ number_of (slot b.table r.0) = L.least r.0 r.4 in
        let here_is : number_of (slot b.table i) ≡ x.number = ap number_of here in
        let there_is : number_of (slot b.table r.0) ≡ n = ap number_of r.2 ∙ r.3 in
        omega arith
