use Rattle.graph.proofs.Placing.{below_some, past_none}
use Rattle.table.proofs.settings.Setting.new.Goals as goal

pub returns-then-index-lt64 : goal.returns-then-index-lt64
returns-then-index-lt64 c = below_some c.args.index _ _

pub returns-else-index-lt64 : goal.returns-else-index-lt64
returns-else-index-lt64 c = past_none c.args.index _ c.if-index-lt64.false
