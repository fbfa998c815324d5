use Rattle.std.proofs.Common.{arith}
use Rattle.graph.proofs.Membership.{shared}
use Rattle.graph.proofs.place_set.PlaceSet.shares.Goals as goal

pub returns : goal.returns
returns c = shared c.args.self c.args.other (omega arith)
