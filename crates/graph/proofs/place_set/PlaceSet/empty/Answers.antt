use Rattle.graph.proofs.Membership.{has_none}
use Rattle.graph.proofs.place_set.PlaceSet.empty.Goals as goal

pub returns : goal.returns
returns c = has_none
