use Rattle.std.proofs.Common.{◌≡◌, ◌<◌, ◌≤◌, Option, sym, refl, ◌∙◌, subst, arith, MatchOption}
use Rattle.graph.proofs.Placing.{below_some}
use Rattle.table.specs.declared.settings.Setting.{Setting}
use Rattle.book.proofs.books.Book.setting.Goals as goal

pub returns-then-index-self : goal.returns-then-index-self
returns-then-index-self c =
    let b = c.args.self.now in
    let most : b.settings ≤ 64 = b.sized.0.1 in
    let h : c.args.index < 64 = omega arith in
    subst (λ (r : Option Setting). MatchOption r (b.settings ≤ c.args.index) (λ s. (s.index ≡ c.args.index) × (c.args.index < b.settings)))
    (below_some c.args.index _ h ∙ sym c.new.ensures) (refl, c.if-index-self.true)
