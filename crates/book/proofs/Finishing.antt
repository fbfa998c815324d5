-- A write: whether it closes a circle, and the book that it leaves.
use Rattle.std.proofs.Common.{◌≡◌, ℕ, Bool, true, false, cond, not, ◌&&◌, ◌||◌, T, eqb, List, length, Some, Ok, Err, Result, sym, refl, ap, ◌∙◌, subst, ap₂}
use Rattle.std.proofs.lemmas.Bool.{eq-eqb, ne_eqb, cond-true, cond-false}
use Rattle.graph.specs.declared.place_set.PlaceSet.{PlaceSet}
use Rattle.graph.specs.Members.{has, Shared}
use Rattle.graph.specs.Walk.{anywhere, Answers}
use Rattle.model.specs.declared.refusals.Refusal.{Refusal}
use Rattle.model.specs.declared.refusals.Refusal.TheVariants.{Circle}
use Rattle.model.specs.Kinds.{Kind}
use Rattle.model.specs.Lists.{some_of}
use Rattle.model.specs.Book as Model
use Rattle.model.specs.Calls.{write_closes_circle, with_write, job_after_write, write_answer, write_book, write_row, put_all, entries_of, entries_or_none, named, after_step}
use Rattle.model.specs.Possible.{Possible}
use Rattle.model.proofs.Tests.{true_T}
use Rattle.model.proofs.Lists.{some_i, some_e}
use Rattle.model.proofs.BookGraph.{touched_held}
use Rattle.model.proofs.Answers.{write_decides, keeps_possible}
use Rattle.table.specs.declared.jobs.Job.{Job}
use Rattle.table.specs.declared.settings.SettingSet.{SettingSet}
use Rattle.table.specs.declared.tables.Table.{Table}
use Rattle.table.specs.Slots.{slot, bit, passes, taken, has_setting}
use Rattle.table.specs.Changed.{after_write}
use Rattle.table.specs.Touching.{touched, Touched}
use Rattle.table.proofs.Touches.{same_answer}
use Rattle.book.specs.declared.books.Book.{Book}
use Rattle.book.specs.View.{content}
use Rattle.book.specs.Entries.{all_valued, Accepted}
use Rattle.book.specs.State.{model, ActiveAt}
use Rattle.book.proofs.Founds.{passes_taken}
use Rattle.book.proofs.Lifts.{Changed}
use Rattle.book.proofs.Paths.{at_job}
use Rattle.book.proofs.Places.{job_here, content_here}
use Rattle.book.proofs.Steps.{step_closes, step_moved}
use Rattle.book.proofs.Wholes.{Moved, Facts, facts, possible}

-- what the code knows once it has looked for a circle
pub record Seen {V : Type 0} (kind : Kind V) (b : Book) (n k : ℕ) (bytes : List ℕ) (s : SettingSet) («from» : PlaceSet) (closes : Bool) : Type 0 where
  pub at : ActiveAt b n k
  pub accepted : Accepted kind b.settings bytes s
  pub touchers : PlaceSet
  pub touched_some : (i : ℕ) → Touched s (slot b.table i) (has touchers i)
  pub others : (i : ℕ) → has «from» i ≡ (has touchers i && not (eqb i k))
  pub reach : PlaceSet
  pub reached : (to : ℕ) → Answers (bit b.table) anywhere k to (has reach to)
  pub shared : Shared reach «from» closes

module _ {V : Type 0} (kind : Kind V) (b : Book) (n k : ℕ) (bytes : List ℕ) (s : SettingSet) («from» : PlaceSet) (closes : Bool) (S : Seen kind b n k bytes s «from» closes) where
  abbrev settings : List ℕ
  settings = named (all_valued kind bytes)

  touched_at : (d l : ℕ) (z : Job) → slot b.table l ≡ Some z → Model.touched_by (model b) z.number d ≡ passes (touched d) (slot b.table l)
  touched_at d l z g = ap₂ ◌||◌ (at_job b (λ j. j.has_read d) l z g) (at_job b (λ j. j.has_written d) l z g) ∙ sym (ap (passes (touched d)) g)

  like : (l : ℕ) (z : Job) → slot b.table l ≡ Some z → some_of (Model.touched_by (model b) z.number) settings ≡ has S.touchers l
  like l z g = same_answer (some_of (Model.touched_by (model b) z.number) settings) (has S.touchers l)
      (λ t.
      let r = some_e (Model.touched_by (model b) z.number) settings t in
      (S.touched_some l).told r.0 (subst T (sym (S.accepted.names r.0)) r.1) (subst T (touched_at r.0 l z g) r.2))
      (λ t.
      let r = (S.touched_some l).some t in
      some_i (Model.touched_by (model b) z.number) settings r.0 (subst T (S.accepted.names r.0) r.1) (subst T (sym (touched_at r.0 l z g)) r.2))

  there : (l : ℕ) → T (has S.touchers l) → T (taken (slot b.table l))
  there l t = let r = (S.touched_some l).some t in passes_taken (touched r.0) (slot b.table l) r.2

  pub closes_is : closes ≡ write_closes_circle (model b) n settings
  closes_is = step_closes b n k S.at.stands (λ p. some_of (Model.touched_by (model b) p) settings) (has S.touchers) like there «from» S.others S.reach closes S.shared S.reached

  module _ (row : List V) (long : length row ≡ b.settings) where
    answer_is : (c : Bool) → closes ≡ c → ◌≡◌ {A = Result (Unit {0}) Refusal} (write_answer kind (model b) row n bytes) (elim c [ true ↦ Err Circle | false ↦ Ok tt ])
    answer_is c p = write_decides (model b) row n long (true_T _ S.at.active) kind bytes (all_valued kind bytes) S.accepted.passed
        ∙ ap (λ (x : Bool). let r : Result (Unit {0}) Refusal = elim x [ true ↦ Err Circle | false ↦ Ok tt ] in r) (sym closes_is ∙ p)

    pub cut_answer : closes ≡ true → write_answer kind (model b) row n bytes ≡ Err Circle
    cut_answer p = answer_is true p

    pub pass_answer : closes ≡ false → write_answer kind (model b) row n bytes ≡ Ok tt
    pass_answer p = answer_is false p

    abbrev after : Result (Unit {0}) Refusal → Model.Book
    after a = after_step a (model b) (with_write (model b) n (named (entries_of kind b.settings bytes))) n

    pub cut_book : closes ≡ true → write_book kind (model b) row n bytes ≡ Model.removed (model b) n
    cut_book p = ap after (cut_answer p)

    written : entries_of kind b.settings bytes ≡ all_valued kind bytes
    written = ap entries_or_none S.accepted.passed

    pub pass_book : closes ≡ false → write_book kind (model b) row n bytes ≡ with_write (model b) n settings
    pass_book p = ap after (pass_answer p) ∙ ap (λ (es : List (ℕ × V)). with_write (model b) n (named es)) written

    abbrev row_after : Result (Unit {0}) Refusal → List V
    row_after a = elim a [ Ok t ↦ put_all row (entries_of kind b.settings bytes) | Err r ↦ row ]

    pub cut_row : closes ≡ true → write_row kind (model b) row n bytes ≡ row
    cut_row p = ap row_after (cut_answer p)

    pub pass_row : closes ≡ false → write_row kind (model b) row n bytes ≡ put_all row (all_valued kind bytes)
    pass_row p = ap row_after (pass_answer p) ∙ ap (put_all row) written

    pass_possible : closes ≡ false → Possible (with_write (model b) n settings)
    pass_possible p = subst Possible (pass_book p) ((keeps_possible kind (model b) (possible b)).by_write row n bytes)

    module _ (t' : Table) (slots : (i : ℕ) → slot t' i ≡ cond (eqb i k) (after_write s (slot b.table i)) (slot b.table i))
        (bits : (p q : ℕ) → bit t' p q ≡ (bit b.table p q || (eqb q k && has «from» p))) where
      abbrev job : (j : Job) × (slot b.table k ≡ Some j) × (j.number ≡ n)
      job = job_here b n k S.at.stands

      abbrev new : Job
      new = record { number = job.0.number; finished = true; reads = job.0.reads; writes = s }

      finished : Changed (slot b.table) (slot t') k (Some new)
      finished = record {
        same = slots k ∙ cond-true (eqb k k) _ _ (eq-eqb k k refl) ∙ ap (after_write s) job.1;
        other = λ i ne. slots i ∙ cond-false (eqb i k) _ _ (ne_eqb i k ne);
      }

      noted : job_after_write settings ((model b).job n) ≡ Some (content new)
      noted = ap (job_after_write settings) (content_here b n k S.at.stands) ∙ (λ i. Some (record {
        finished = true;
        has_read = has_setting job.0.reads;
        has_written = λ d. sym (S.accepted.names d) i;
      }))

      pub write_moved : Moved b.settings b.limit b.last t' (with_write (model b) n settings)
      write_moved = step_moved b n k S.at.stands (λ p. some_of (Model.touched_by (model b) p) settings) (has S.touchers) like there «from» S.others
          (λ p t. let r = some_e (Model.touched_by (model b) p) settings t in touched_held false ((model b).job p) r.0 r.2)
          t' new job.2 finished bits (job_after_write settings ((model b).job n)) noted

      pub write_facts : closes ≡ false → Facts b.settings b.limit b.last t'
      write_facts p = facts write_moved (pass_possible p)
