use Rattle.std.proofs.Common.{rules}
use Rattle.std.proofs.lemmas.Iterator.Search.{find_from_yields_List}
use Rattle.model.specs.Book.{Book, finished}
use Rattle.model.specs.Forgetting.{may_forget}
use Rattle.book.specs.State.{model}
use Rattle.book.proofs.Left.{YieldsList-from_left}
use Rattle.policies.proofs.Found.{found}
use Rattle.policies.proofs.plain.ThoroughPolicy.consult.Goals as goal

pub returns-clause-answers : goal.returns-clause-answers
returns-clause-answers c =
    let b : Book = model c.args.book.now in
    found (may_forget b) (finished b) c.find.result
    (find_from_yields_List (may_forget b) c.find.new.self _ c.find.result c.find.ensures.ran (YieldsList-from_left (finished b) c.finished_jobs.ensures) (λ x v q k. search rules))
