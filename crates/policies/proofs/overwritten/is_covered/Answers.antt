use Rattle.std.proofs.Common.{◌≡◌, ℕ, Bool, true, not, ◌&&◌, ◌||◌, ap, ◌∙◌, rules}
use Rattle.std.proofs.lemmas.Iterator.Search.{any_from_yields_List}
use Rattle.model.specs.Lists.{some_of}
use Rattle.model.specs.Book as Model
use Rattle.book.specs.State.{model}
use Rattle.book.proofs.Left.{YieldsList-from_left}
use Rattle.policies.proofs.Found.{any_is}
use Rattle.policies.proofs.overwritten.is_covered.Goals as goal

pub returns-else-not-has_touched : goal.returns-else-not-has_touched
returns-else-not-has_touched c =
    let b : Model.Book = model c.args.book.now in
    let test : ℕ → Bool = λ k. b.arrow c.args.job k && Model.written_by b k c.args.setting in
    let touched : true ≡ Model.touched_by b c.args.job c.args.setting = c.if-not-has_touched.ensures in
    any_from_yields_List test c.any.new.self _ c.any.result c.any.ensures.ran (YieldsList-from_left (Model.finished b) c.finished_jobs.ensures) (λ x v q k. search rules)
    ∙ any_is test (Model.finished b)
    ∙ ap (λ (v : Bool). not v || some_of test (Model.finished b)) touched
