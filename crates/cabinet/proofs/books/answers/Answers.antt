use Rattle.std.proofs.Common.{◌≡◌, ℕ, List, length, take, vec_items, Ok, sym, ap, ◌∙◌, subst}
use Rattle.std.proofs.lemmas.List.{with_items_is}
use Rattle.std.proofs.lemmas.Result.{IfOk-at_ok, MatchResult-at_ok}
use Rattle.model.specs.Calls.{new_book}
use Rattle.model.specs.Laws.{Sound}
use Rattle.stream.specs.Lines.{lines_room}
use Rattle.book.specs.State.{model}
use Rattle.cabinet.specs.Lines.{settings, limit, Answered}
use Rattle.cabinet.proofs.Answering.{same_ok, was_ok, answered}
use Rattle.cabinet.proofs.books.answers.Goals as goal

pub returns : goal.returns
returns g c =
    let items : vec_items c.truncate.new.self ≡ take c.run-ended.result.length c.run-ended.new.out =
    c.truncate.ensures.items ∙ ap (take c.run-ended.result.length) (with_items_is c.in_ok-out.out c.run-ended.new.out (c.run-ended.auto.out ∙ c.as_mut_slice.ensures.len)) in
    let room : length c.as_mut_slice.result.now ≡ lines_room (length c.args.input.now) = c.as_mut_slice.ensures.len ∙ c.in_ok-out.ensures.len ∙ c.lines_room.ensures in
    let was : c.open.result ≡ Ok c.in_ok-book.book = was_ok _ c.open.result c.in_ok-book.book _ c.in_ok-book.ensures.cases c.in_ok-book.ensures.variant in
    let new : model c.in_ok-book.book ≡ new_book settings limit = sym (same_ok _ _ (MatchResult-at_ok _ _ _ was c.open.ensures.answers)) in
    subst (λ (text : List ℕ). Answered g.K.Kind.kind g.P.Policy.does c.args.row.now c.args.policy.now c.args.input.now text) (sym items)
    (answered g.K.Kind.kind g.P.Policy.does c.args.row.now c.args.policy.now c.args.input.now c.as_mut_slice.result.now c.run-ended.new.out _ c.run-ended.result
    (model c.in_ok-book.book) new room (IfOk-at_ok (λ b. (row : List _) → Sound g.K.Kind.kind (model b) row) was c.open.ensures.sound c.args.row.now, c.run-ended.ensures.runs, c.run-ended.ensures.follows))
