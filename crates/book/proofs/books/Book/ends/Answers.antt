use Rattle.std.proofs.Common.{◌&&◌, ap, ◌∙◌}
use Rattle.std.proofs.Math.Bool.{and-false}
use Rattle.model.specs.Book as Model
use Rattle.book.specs.State.{model}
use Rattle.book.proofs.Asking.{not_held}
use Rattle.book.proofs.books.Book.ends.Goals as goal

pub returns-in_err-place_of : goal.returns-in_err-place_of
returns-in_err-place_of c =
    rw c.from_residual.ensures (ap (λ v. v && Model.is_held (model c.args.self.now) c.args.to) (not_held c.args.self.now c.args.from c.in_err-place_of.ensures))

pub returns-in_err-place_of-2 : goal.returns-in_err-place_of-2
returns-in_err-place_of-2 c =
    rw c.from_residual-in_err-place_of-2.ensures (ap (λ v. Model.is_held (model c.args.self.now) c.args.from && v) (not_held c.args.self.now c.args.to c.in_err-place_of-2.ensures) ∙ and-false _)
