use Rattle.graph.specs.Members.{has}
use Rattle.graph.proofs.Spread.{spread_start, spread_step, spread_end, ahead_less}
use Rattle.graph.proofs.search.search.Goals as goal

pub loop-stop-init : goal.loop-stop-init
loop-stop-init g c = spread_start (g.G.Graph.arrow c.args.graph.now) (has c.row-seen.result)

pub loop-stop-smaller : goal.loop-stop-smaller
loop-stop-smaller g c =
    let taken = c.in-Some.ensures in
    ahead_less _ _ _ _ (has c.row.result) (has c.take_first.new.self) (has c.minus-fresh.result) _ _ c.in-Some.next.index c.loop-stop.invariant
    taken.member c.row.ensures taken.others c.minus-fresh.ensures c.union-seen.ensures c.union-todo.ensures c.in-Some.next.small

pub loop-stop-preserved : goal.loop-stop-preserved
loop-stop-preserved g c =
    let taken = c.in-Some.ensures in
    spread_step _ _ _ _ (has c.row.result) (has c.take_first.new.self) (has c.minus-fresh.result) _ _ c.in-Some.next.index c.loop-stop.invariant
    taken.member c.row.ensures taken.others c.minus-fresh.ensures c.union-seen.ensures c.union-todo.ensures

pub returns-in_default : goal.returns-in_default
returns-in_default g c = record {
  sound = c.loop-stop.invariant.sound c.args.from.index c.row-seen.ensures;
  full = λ apart. spread_end _ _ _ (has c.loop-stop.todo) c.loop-stop.invariant c.in_default.ensures.0 c.args.from.index c.row-seen.ensures;
}
