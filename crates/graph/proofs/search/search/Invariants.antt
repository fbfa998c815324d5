use Rattle.graph.specs.Members.{has}
use Rattle.graph.proofs.Spread.{Spread, ahead}
use Rattle.graph.proofs.search.search.Given as goal

abbrev pub invariant-loop-stop : goal.invariant-loop-stop
invariant-loop-stop g l = Spread (g.G.Graph.arrow l.graph) (has l.initial.seen) (has l.seen) (has l.todo)

abbrev pub decreases-loop-stop : goal.decreases-loop-stop
decreases-loop-stop g l = ahead (has l.seen) (has l.todo)
