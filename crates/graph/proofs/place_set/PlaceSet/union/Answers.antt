use Rattle.graph.proofs.Membership.{has_or}
use Rattle.graph.proofs.place_set.PlaceSet.union.Goals as goal

pub returns : goal.returns
returns c = has_or c.args.self c.args.other
