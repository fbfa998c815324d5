-- A step of an active job at its place, which gets arrows from the places of a set.
use Rattle.std.proofs.Common.{◌≡◌, ℕ, Bool, not, ◌&&◌, ◌||◌, T, eqb, Some, Option, sym, ◌∙◌, subst, ap₂}
use mathlib.Core.Bool.{and_comm}
use Rattle.graph.specs.declared.place_set.PlaceSet.{PlaceSet}
use Rattle.graph.specs.Members.{has, Shared}
use Rattle.graph.specs.Walk.{anywhere, Answers}
use Rattle.model.specs.Lists.{some_of}
use Rattle.model.specs.Book as Model
use Rattle.model.proofs.Tests.{and_r}
use Rattle.table.specs.declared.jobs.Job.{Job}
use Rattle.table.specs.declared.tables.Table.{Table}
use Rattle.table.specs.Slots.{slot, bit, taken}
use Rattle.book.specs.declared.books.Book.{Book}
use Rattle.book.specs.View.{content}
use Rattle.book.specs.State.{model, StandsAt}
use Rattle.book.proofs.Lifts.{Changed, same_test, stepped_book}
use Rattle.book.proofs.Moves.{lone, stepped_moved}
use Rattle.book.proofs.Paths.{shows, closing}
use Rattle.book.proofs.Places.{job_here}
use Rattle.book.proofs.Wholes.{Moved}

-- K says by numbers, and clash by places, which other jobs get an arrow to the job n at the place k
module _ (b : Book) (n k : ℕ) (at : StandsAt b n k) (K clash : ℕ → Bool)
    (like : (l : ℕ) (z : Job) → slot b.table l ≡ Some z → K z.number ≡ clash l)
    (there : (l : ℕ) → T (clash l) → T (taken (slot b.table l)))
    («from» : PlaceSet) (is : (i : ℕ) → has «from» i ≡ (clash i && not (eqb i k))) where
  others : (i : ℕ) → has «from» i ≡ (not (eqb i k) && clash i)
  others i = is i ∙ and_comm (clash i) (not (eqb i k))

  pub step_closes : (reach : PlaceSet) (r : Bool) → Shared reach «from» r → ((to : ℕ) → Answers (bit b.table) anywhere k to (has reach to))
      → r ≡ some_of (λ m. not (eqb m n) && (K m && Model.path (model b) n m)) (Model.held (model b))
  step_closes reach r shared ans = closing b n k at K clash like there reach «from» r shared ans others

  pub step_moved : ((p : ℕ) → T (K p) → T (Model.is_held (model b) p)) → (t' : Table) (j' : Job) → j'.number ≡ n → Changed (slot b.table) (slot t') k (Some j')
      → ((p q : ℕ) → bit t' p q ≡ (bit b.table p q || (eqb q k && has «from» p)))
      → (J : Option Model.Job) → J ≡ Some (content j')
      → Moved b.settings b.limit b.last t' (stepped_book (model b) n J (λ p. not (eqb p n) && K p))
  step_moved from_held t' j' num G more J e =
      let j = job_here b n k at in
      stepped_moved b.settings b.limit b.last b.table t' b.apart b.clean n k at j' num G (has «from»)
      (λ p t. there p (and_r (not (eqb p k)) (clash p) (subst T (others p) t))) more J e (λ p. not (eqb p n) && K p)
      (λ i x g. ap₂ (λ u v. not u && v) (same_test (slot b.table) (slot b.table) (bit b.table) (bit b.table) (model b) (shows b) k n (lone b.table b.apart n k at) j.0 j.1 j.2 i x g) (like i x g) ∙ sym (others i))
      (λ p t. from_held p (and_r (not (eqb p n)) (K p) t))
