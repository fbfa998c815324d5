use Rattle.std.proofs.Common.{◌≡◌, ℕ, false, true, Err, sym, ◌∙◌, subst, MatchOption, rules}
use Rattle.std.proofs.lemmas.Bool.{cond-false}
use Rattle.model.specs.declared.refusals.Refusal.TheVariants.{NotFinished}
use Rattle.model.specs.Book.{is_finished}
use Rattle.model.proofs.Tests.{true_T}
use Rattle.book.specs.Lacks.{FirstLack}
use Rattle.book.specs.State.{model, FoundAt}
use Rattle.book.proofs.Blocking.{blocker_is}
use Rattle.book.proofs.Options.{gave, lacked}
use Rattle.book.proofs.Places.{kept}
use Rattle.book.proofs.books.Book.blocker.Goals as goal
use Rattle.book.proofs.books.Book.blocker.Goals.{After-filter}

module _ (c : After-filter) where
  kept_here : MatchOption c.filter.result (is_finished (model c.args.self.now) c.args.job ≡ false) (λ x. FoundAt c.args.self.now c.args.job x.0.index x.1 × (is_finished (model c.args.self.now) c.args.job ≡ true))
  kept_here = kept c.args.self.now c.args.job (λ j. j.finished) c.find.result c.filter.result c.find.ensures c.filter.ensures (λ x v q. search rules)

pub returns-in_err-place : goal.returns-in_err-place
returns-in_err-place c =
    let refused : c.from_residual.result ≡ Err NotFinished = search rules in
    refused ∙ sym (cond-false _ _ _ (lacked _ _ c.ok_or.ensures.ok_part _ _ (kept_here (goal.at.returns-in_err-place c).After-filter) c.in_err-place.was))

pub returns : goal.returns
returns c =
    let at = gave _ _ c.ok_or.ensures.ok_part _ _ (kept_here (goal.at.returns c).After-filter) (c.in_ok-place.place, c.in_ok-place.old) c.in_ok-place.was in
    blocker_is (model c.args.self.now) c.args.job (true_T _ at.1) c.first_lack.result
    (subst (λ (n : ℕ). FirstLack (model c.args.self.now) n c.first_lack.result) at.0.number c.first_lack.ensures)
