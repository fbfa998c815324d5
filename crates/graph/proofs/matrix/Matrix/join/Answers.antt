use Rattle.std.proofs.Common.{◌&&◌, ◌||◌, eqb, ap, ◌∙◌, arith}
use Rattle.graph.specs.Drawn.{drawn}
use Rattle.graph.proofs.Arrows.{drawn_more}
use Rattle.graph.proofs.matrix.Matrix.join.Goals as goal

pub returns : goal.returns
returns c p q =
    drawn_more c.args.self.now.rows c.index.result c.args.to.index c.insert.new.self
    (omega (arith, c.args.self.now.sized, c.args.from.small)) c.insert.ensures p q
    ∙ ap (λ n. drawn c.args.self.now.rows p q || (eqb p n && eqb q c.args.to.index)) c.index.ensures
