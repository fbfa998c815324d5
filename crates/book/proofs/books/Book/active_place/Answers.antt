use Rattle.std.proofs.Common.{◌≡◌, false, true, Err, not, refl, MatchOption, rules}
use Rattle.model.specs.declared.refusals.Refusal.TheVariants.{NotActive}
use Rattle.model.specs.Book.{is_active}
use Rattle.book.specs.State.{model, FoundAt}
use Rattle.book.proofs.Options.{gave, lacked}
use Rattle.book.proofs.Places.{kept, found_stands}
use Rattle.book.proofs.books.Book.active_place.Goals as goal
use Rattle.book.proofs.books.Book.active_place.Goals.{After-filter}

module _ (c : After-filter) where
  kept_here : MatchOption c.filter.result (is_active (model c.args.self.now) c.args.job ≡ false) (λ x. FoundAt c.args.self.now c.args.job x.0.index x.1 × (is_active (model c.args.self.now) c.args.job ≡ true))
  kept_here = kept c.args.self.now c.args.job (λ j. not j.finished) c.find.result c.filter.result c.find.ensures c.filter.ensures (λ x v q. search rules)

pub returns-in_err-place : goal.returns-in_err-place
returns-in_err-place c =
    let refused : c.from_residual.result ≡ Err NotActive = search rules in
    rw refused (refl, lacked _ _ c.ok_or.ensures.ok_part _ _ (kept_here (goal.at.returns-in_err-place c).After-filter) c.in_err-place.was)

pub returns : goal.returns
returns c =
    let at = gave _ _ c.ok_or.ensures.ok_part _ _ (kept_here (goal.at.returns c).After-filter) (c.in_ok-place.place, c.in_ok-place.field-0-1) c.in_ok-place.was in
    record { stands = found_stands c.args.self.now c.args.job c.in_ok-place.place.index c.in_ok-place.field-0-1 at.0; active = at.1 }
