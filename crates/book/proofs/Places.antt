-- The job of a number, by its place.
use Rattle.std.proofs.Common.{◌≡◌, ℕ, Bool, true, false, cond, not, ◌&&◌, ◌||◌, T, eqb, Some, None, Option, sym, refl, ap, ◌∙◌, subst, MatchOption}
use Rattle.std.specs.Bool.{then_some}
use Rattle.graph.specs.declared.place.Place.{Place}
use Rattle.std.proofs.lemmas.Bool.{eq-eqb, ne_eqb, cond-true, cond-false}
use Rattle.model.specs.Book as Model
use Rattle.model.proofs.Possible.{possible_removed, possible_forgotten}
use Rattle.table.specs.declared.jobs.Job.{Job}
use Rattle.table.specs.declared.tables.Table.{Table}
use Rattle.table.specs.Slots.{slot, bit, passes, numbered}
use Rattle.book.specs.declared.books.Book.{Book}
use Rattle.book.specs.View.{content, found, job_of}
use Rattle.book.specs.State.{model, StandsAt, FoundAt}
use Rattle.book.proofs.Founds.{found_some, numbered_job, job_numbered}
use Rattle.book.proofs.Lifts.{Changed}
use Rattle.book.proofs.Wholes.{Moved, Facts, facts, possible}
use Rattle.book.proofs.Moves.{removed_moved, forgotten_moved}
use Rattle.book.proofs.Paths.{shows}

-- no place holds the number
pub absent : (b : Book) (n : ℕ) → ((i : ℕ) → numbered n (slot b.table i) ≡ false) → (model b).job n ≡ None
absent b n none = go (found (slot b.table) n) refl
  where
    go : (o : Option ℕ) → found (slot b.table) n ≡ o → job_of (slot b.table) o ≡ None
    go None e = refl
    go (Some i) e = absurd (subst T (none i) (found_some (slot b.table) n i e))

-- a place holds it
module _ (b : Book) (n i : ℕ) (at : StandsAt b n i) where
  pub job_here : (j : Job) × (slot b.table i ≡ Some j) × (j.number ≡ n)
  job_here = numbered_job n (slot b.table i) at

  pub content_here : (model b).job n ≡ Some (content job_here.0)
  content_here = subst (λ m. (model b).job m ≡ Some (content job_here.0)) job_here.2 ((shows b).here i job_here.0 job_here.1)

  -- a test of the job is the same by number and by place
  pub test_here : (f : Job → Bool) (g : Model.Job → Bool) → ((j : Job) → g (content j) ≡ f j) → Model.holds g ((model b).job n) ≡ passes f (slot b.table i)
  test_here f g like = ap (Model.holds g) content_here ∙ like job_here.0 ∙ sym (ap (passes f) job_here.1)

-- a job that was found
module _ (b : Book) (n i : ℕ) (x : Job) (at : FoundAt b n i x) where
  pub found_content : (model b).job n ≡ Some (content x)
  found_content = subst (λ m. (model b).job m ≡ Some (content x)) at.number ((shows b).here i x at.here)

  pub found_stands : StandsAt b n i
  found_stands = job_numbered n (slot b.table i) x at.here at.number

-- a change that is told of every place at once
pub changed : (t t' : Table) (k : ℕ) (o : Option Job) → ((i : ℕ) → slot t' i ≡ cond (eqb i k) o (slot t i)) → Changed (slot t) (slot t') k o
changed t t' k o is = record {
  same = is k ∙ cond-true (eqb k k) o (slot t k) (eq-eqb k k refl);
  other = λ i ne. is i ∙ cond-false (eqb i k) o (slot t i) (ne_eqb i k ne);
}

-- a job leaves its place
module _ (b : Book) (t' : Table) (n k : ℕ) (at : StandsAt b n k) (slots : (i : ℕ) → slot t' i ≡ cond (eqb i k) None (slot b.table i)) where
  pub removed_at : ((p q : ℕ) → bit t' p q ≡ (not (eqb p k) && (not (eqb q k) && bit b.table p q))) → Moved b.settings b.limit b.last t' (Model.removed (model b) n)
  removed_at bits = removed_moved b.settings b.limit b.last b.table t' b.apart b.clean n k at (changed b.table t' k None slots) bits

  pub removed_facts : ((p q : ℕ) → bit t' p q ≡ (not (eqb p k) && (not (eqb q k) && bit b.table p q))) → Facts b.settings b.limit b.last t'
  removed_facts bits = facts (removed_at bits) (possible_removed (model b) n (possible b))

  module _ (bits : (p q : ℕ) → bit t' p q ≡ (not (eqb p k) && (not (eqb q k) && (bit b.table p q || (bit b.table p k && bit b.table k q))))) where
    pub forgotten_at : Moved b.settings b.limit b.last t' (Model.forgotten (model b) n)
    forgotten_at = forgotten_moved b.settings b.limit b.last b.table t' b.apart b.clean n k at (changed b.table t' k None slots) bits

    pub forgotten_facts : Facts b.settings b.limit b.last t'
    forgotten_facts = facts forgotten_at (possible_forgotten (model b) n (possible b))

-- a job that was found, and kept where it passes a test
module _ (b : Book) (n : ℕ) (g : Model.Job → Bool) where
  pub kept : (o r : Option (Place × Job)) → MatchOption o ((model b).job n ≡ None) (λ x. FoundAt b n x.0.index x.1) → {Q : Place × Job → Bool → Type 0}
      → MatchOption o (r ≡ None) (λ x. (v : Bool) × Q x v × (r ≡ then_some v x)) → ((x : Place × Job) (v : Bool) → Q x v → v ≡ g (content x.1))
      → MatchOption r (Model.holds g ((model b).job n) ≡ false) (λ x. FoundAt b n x.0.index x.1 × (Model.holds g ((model b).job n) ≡ true))
  kept None r none off asks = rw off (ap (Model.holds g) none)
  kept (Some x) r at on asks = go on.0 (asks x on.0 on.1) on.2
    where
      go : (v : Bool) → v ≡ g (content x.1) → r ≡ then_some v x → MatchOption r (Model.holds g ((model b).job n) ≡ false) (λ x. FoundAt b n x.0.index x.1 × (Model.holds g ((model b).job n) ≡ true))
      go true is e = rw e (at, ap (Model.holds g) (found_content b n x.0.index x.1 at) ∙ sym is)
      go false is e = rw e (ap (Model.holds g) (found_content b n x.0.index x.1 at) ∙ sym is)
