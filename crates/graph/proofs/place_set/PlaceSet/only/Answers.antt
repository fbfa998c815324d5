use Rattle.graph.proofs.Membership.{has_only}
use Rattle.graph.proofs.place_set.PlaceSet.only.Goals as goal

pub returns : goal.returns
returns c = simp c.index.ensures (has_only c.args.place)
