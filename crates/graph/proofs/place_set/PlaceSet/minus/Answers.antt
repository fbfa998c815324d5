use Rattle.std.proofs.Common.{arith}
use Rattle.graph.proofs.Membership.{has_minus}
use Rattle.graph.proofs.place_set.PlaceSet.minus.Goals as goal

pub returns : goal.returns
returns c k = has_minus c.args.self c.args.other k (omega arith)
