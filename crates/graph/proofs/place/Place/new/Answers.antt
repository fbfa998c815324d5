use Rattle.graph.proofs.Placing.{placed_below, placed_past}
use Rattle.graph.proofs.place.Place.new.Goals as goal

pub returns-then-index-lt64 : goal.returns-then-index-lt64
returns-then-index-lt64 c = placed_below c.args.index _

pub returns-else-index-lt64 : goal.returns-else-index-lt64
returns-else-index-lt64 c = placed_past c.args.index c.if-index-lt64.false
