-- A read: whether it closes a circle, and the book that it leaves.
use Rattle.std.proofs.Common.{◌≡◌, ℕ, ◌<◌, Bool, true, false, not, ◌&&◌, ◌||◌, T, eqb, ◌≢◌, List, length, Some, Ok, Err, Option, Result, sym, ap, ◌∙◌, subst}
use mathlib.Core.Bool.{or_comm}
use Rattle.std.specs.List.{slice_get}
use Rattle.graph.specs.declared.place_set.PlaceSet.{PlaceSet}
use Rattle.graph.specs.Members.{has, Shared}
use Rattle.graph.specs.Walk.{anywhere, Answers}
use Rattle.model.specs.declared.refusals.Refusal.{Refusal}
use Rattle.model.specs.declared.refusals.Refusal.TheVariants.{Circle}
use Rattle.model.specs.Book as Model
use Rattle.model.specs.Calls.{read_closes_circle, with_read, job_after_read, read_answer, read_book, after_step}
use Rattle.model.proofs.Tests.{true_T}
use Rattle.model.proofs.BookGraph.{touched_held}
use Rattle.model.proofs.Possible.{possible_read}
use Rattle.model.proofs.Answers.{read_decides}
use Rattle.table.specs.declared.jobs.Job.{Job}
use Rattle.table.specs.declared.tables.Table.{Table}
use Rattle.table.specs.Slots.{slot, bit, passes, has_setting}
use Rattle.table.specs.Changed.{AlsoRead, AfterRead}
use Rattle.table.specs.Touching.{wrote}
use Rattle.book.specs.declared.books.Book.{Book}
use Rattle.book.specs.View.{content}
use Rattle.book.specs.State.{model, ActiveAt}
use Rattle.book.proofs.Founds.{passes_taken}
use Rattle.book.proofs.Paths.{at_job}
use Rattle.book.proofs.Places.{job_here, content_here}
use Rattle.book.proofs.Steps.{step_closes, step_moved}
use Rattle.book.proofs.Wholes.{Moved, Facts, facts, possible}

-- what the code knows once it has looked for a circle
pub record Seen (b : Book) (n k e : ℕ) («from» : PlaceSet) (closes : Bool) : Type 0 where
  pub at : ActiveAt b n k
  pub low : e < b.settings
  pub writers : PlaceSet
  pub wrote_it : (i : ℕ) → has writers i ≡ passes (wrote e) (slot b.table i)
  pub others : (i : ℕ) → has «from» i ≡ (has writers i && not (eqb i k))
  pub reach : PlaceSet
  pub reached : (to : ℕ) → Answers (bit b.table) anywhere k to (has reach to)
  pub shared : Shared reach «from» closes

module _ (b : Book) (n k e : ℕ) («from» : PlaceSet) (closes : Bool) (s : Seen b n k e «from» closes) where
  abbrev clash : ℕ → Bool
  clash i = passes (wrote e) (slot b.table i)

  like : (l : ℕ) (z : Job) → slot b.table l ≡ Some z → Model.written_by (model b) z.number e ≡ clash l
  like l z g = at_job b (λ j. j.has_written e) l z g ∙ sym (ap (passes (wrote e)) g)

  is : (i : ℕ) → has «from» i ≡ (clash i && not (eqb i k))
  is i = s.others i ∙ ap (λ v. v && not (eqb i k)) (s.wrote_it i)

  pub closes_is : closes ≡ read_closes_circle (model b) n e
  closes_is = step_closes b n k s.at.stands (λ p. Model.written_by (model b) p e) clash like (λ l t. passes_taken (wrote e) (slot b.table l) t) «from» is s.reach closes s.shared s.reached

  module _ {V : Type 0} (row : List V) (long : length row ≡ b.settings) (v : V) (here : slice_get row e ≡ Some v) where
    answer_is : (c : Bool) → closes ≡ c → ◌≡◌ {A = Result V Refusal} (read_answer (model b) row n e) (elim c [ true ↦ Err Circle | false ↦ Ok v ])
    answer_is c p = read_decides (model b) row n long (true_T _ s.at.active) e v here
        ∙ ap (λ (x : Bool). let r : Result V Refusal = elim x [ true ↦ Err Circle | false ↦ Ok v ] in r) (sym closes_is ∙ p)

    pub cut_answer : closes ≡ true → read_answer (model b) row n e ≡ Err Circle
    cut_answer p = answer_is true p

    pub cut_book : closes ≡ true → read_book (model b) row n e ≡ Model.removed (model b) n
    cut_book p = ap (λ (a : Result V Refusal). after_step a (model b) (with_read (model b) n e) n) (cut_answer p)

    pub pass_answer : closes ≡ false → read_answer (model b) row n e ≡ Ok v
    pass_answer p = answer_is false p

    pub pass_book : closes ≡ false → read_book (model b) row n e ≡ with_read (model b) n e
    pass_book p = ap (λ (a : Result V Refusal). after_step a (model b) (with_read (model b) n e) n) (pass_answer p)

  module _ (t' : Table) (there : AfterRead e (slot b.table k) (slot t' k)) (rest : (i : ℕ) → i ≢ k → slot t' i ≡ slot b.table i)
      (bits : (p q : ℕ) → bit t' p q ≡ (bit b.table p q || (eqb q k && has «from» p))) where
    abbrev job : (j : Job) × (slot b.table k ≡ Some j) × (j.number ≡ n)
    job = job_here b n k s.at.stands

    new : (j' : Job) × (slot t' k ≡ Some j') × AlsoRead e job.0 j'
    new = subst (λ (o : Option Job). AfterRead e o (slot t' k)) job.1 there

    noted : job_after_read e ((model b).job n) ≡ Some (content new.0)
    noted = ap (job_after_read e) (content_here b n k s.at.stands) ∙ (λ i. Some (record {
      finished = sym new.2.finished i;
      has_read = λ d. sym (new.2.reads d ∙ or_comm (has_setting job.0.reads d) (eqb d e)) i;
      has_written = λ d. has_setting (sym new.2.writes i) d;
    }))

    pub read_moved : Moved b.settings b.limit b.last t' (with_read (model b) n e)
    read_moved = step_moved b n k s.at.stands (λ p. Model.written_by (model b) p e) clash like (λ l t. passes_taken (wrote e) (slot b.table l) t) «from» is
        (λ p t. touched_held true ((model b).job p) e t) t' new.0 (new.2.number ∙ job.2) (record { same = new.1; other = rest }) bits (job_after_read e ((model b).job n)) noted

    pub read_facts : closes ≡ false → Facts b.settings b.limit b.last t'
    read_facts p = facts read_moved (possible_read (model b) n e (possible b) (true_T _ s.at.active) s.low (λ t. subst T (sym closes_is ∙ p) t))
