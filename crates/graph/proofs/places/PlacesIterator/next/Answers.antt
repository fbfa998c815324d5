use Rattle.std.proofs.Common.{rules}
use Rattle.graph.proofs.Listing.{taken_lists}
use Rattle.graph.proofs.places.PlacesIterator.next.Goals as goal

pub returns-clause-steps : goal.returns-clause-steps
returns-clause-steps c = taken_lists _ _ _ c.take_first.ensures

pub returns-clause-goes : goal.returns-clause-goes
returns-clause-goes c = let h = taken_lists _ _ _ c.take_first.ensures in search rules
