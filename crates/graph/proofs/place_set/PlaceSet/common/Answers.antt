use Rattle.graph.proofs.Membership.{has_and}
use Rattle.graph.proofs.place_set.PlaceSet.common.Goals as goal

pub returns : goal.returns
returns c = has_and c.args.self c.args.other
