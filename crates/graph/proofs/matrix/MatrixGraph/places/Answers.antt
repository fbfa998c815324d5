use Rattle.std.proofs.Common.{arith}
use Rattle.graph.proofs.Arrows.{drawn_small}
use Rattle.graph.proofs.matrix.MatrixGraph.places.Goals as goal

pub returns : goal.returns
returns c = record { few = omega (arith, c.args.self.now.sized); inside = λ p q h. omega (arith, c.args.self.now.sized, drawn_small c.args.self.now.rows p q h) }
