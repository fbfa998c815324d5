use Rattle.std.proofs.Common.{ap, sym, ◌∙◌, rules}
use Rattle.book.specs.View.{shown}
use Rattle.book.proofs.Options.{either_way, that_some}
use Rattle.book.proofs.Places.{found_content}
use Rattle.book.proofs.books.Book.held_job.Goals as goal

pub returns : goal.returns
returns c = either_way c.find.result c.find.ensures c.map.ensures.cases
    (λ none r. ap shown r ∙ sym none)
    (λ x at r. ap shown (that_some c.map.result x.1 r (λ y q. search rules)) ∙ sym (found_content c.args.self.now c.args.job x.0.index x.1 at))
