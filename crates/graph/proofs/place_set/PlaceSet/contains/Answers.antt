use Rattle.graph.proofs.Membership.{has_bit}
use Rattle.graph.proofs.place_set.PlaceSet.contains.Goals as goal

pub returns : goal.returns
returns c = simp c.index.ensures (has_bit c.args.self c.args.place)
