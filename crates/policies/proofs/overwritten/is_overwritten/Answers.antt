use Rattle.std.proofs.Common.{◌∙◌, refl, arith, rules}
use Rattle.std.proofs.lemmas.Iterator.{YieldsList-from_range}
use Rattle.std.proofs.lemmas.Iterator.Search.{all_from_yields_List}
use Rattle.model.specs.Book as Model
use Rattle.book.specs.State.{model}
use Rattle.policies.specs.Covered.{covered}
use Rattle.policies.proofs.Found.{all_is}
use Rattle.policies.proofs.overwritten.is_overwritten.Goals as goal

pub returns : goal.returns
returns c =
    let b : Model.Book = model c.args.book.now in
    all_from_yields_List (covered b c.args.job) c.all.new.self _ c.all.result c.all.ensures.ran (YieldsList-from_range 0 c.settings.result b.settings refl (omega arith)) (λ x v q k. search rules)
    ∙ all_is (covered b c.args.job) b.settings
