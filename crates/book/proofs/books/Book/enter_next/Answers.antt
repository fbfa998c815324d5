use Rattle.std.proofs.Common.{◌≡◌, ◌+◌, None, Err, rules, sym, refl, ◌∙◌}
use Rattle.std.proofs.lemmas.Bool.{cond-true, cond-false}
use Rattle.model.specs.declared.refusals.Refusal.TheVariants.{BookFull}
use Rattle.model.specs.Begin.{with_new_job}
use Rattle.model.proofs.Tests.{false_T}
use Rattle.model.proofs.Possible.{fresh, possible_new_job}
use Rattle.table.specs.Slots.{slot}
use Rattle.book.specs.State.{model}
use Rattle.book.proofs.Counts.{full, not_full}
use Rattle.book.proofs.Moves.{entered_moved}
use Rattle.book.proofs.Options.{gave, lacked}
use Rattle.book.proofs.Places.{changed}
use Rattle.book.proofs.Wholes.{Moved, facts, possible}
use Rattle.book.proofs.books.Book.enter_next.Goals as goal
use Rattle.book.proofs.books.Book.enter_next.Goals.{After-enter}

module _ (c : After-enter) where
  free : slot c.args.self.now.table c.in_ok-place.place.index ≡ None
  free = gave _ _ c.ok_or.ensures.ok_part _ _ c.vacancy.ensures c.in_ok-place.place c.in_ok-place.was

  moved : Moved c.args.self.now.settings c.args.self.now.limit (c.args.self.now.last + 1) c.enter.new.self (with_new_job (model c.args.self.now))
  moved =
      let b = c.args.self.now in
      entered_moved b.settings b.limit b.last b.table c.enter.new.self b.apart b.clean c.in_ok-place.place.index free
      (fresh (model b) (possible b).proper) _ refl refl c.empty.ensures c.empty-2.ensures (changed b.table c.enter.new.self c.in_ok-place.place.index _ c.enter.ensures.slots) c.enter.ensures.bits

pub returns-in_err-place : goal.returns-in_err-place
returns-in_err-place c =
    let e = full c.args.self.now (lacked _ _ c.ok_or.ensures.ok_part _ _ c.vacancy.ensures c.in_err-place.was) in
    let refused : c.from_residual.result ≡ Err BookFull = search rules in
    record { answers = refused ∙ sym (cond-true _ _ _ e); leaves = sym (cond-true _ _ _ e) }

pub invariant_of-self : goal.invariant_of-self
invariant_of-self c =
    let b = c.args.self.now in
    facts (moved (goal.at.invariant_of-self c).After-enter)
    (possible_new_job (model b) (possible b) (false_T _ c.requires.0) (false_T _ c.requires.1) (false_T _ (not_full b c.in_ok-place.place.index c.in_ok-place.place.small (free (goal.at.invariant_of-self c).After-enter))))

pub returns : goal.returns
returns c =
    let e = not_full c.args.self.now c.in_ok-place.place.index c.in_ok-place.place.small (free (goal.at.returns c).After-enter) in
    record { answers = sym (cond-false _ _ _ e); leaves = (moved (goal.at.returns c).After-enter).is ∙ sym (cond-false _ _ _ e) }
