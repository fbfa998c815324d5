use Rattle.std.proofs.Common.{◌||◌, ap, ◌∙◌}
use Rattle.graph.specs.Members.{has}
use Rattle.graph.proofs.Membership.{has_or, has_only}
use Rattle.graph.proofs.place_set.PlaceSet.insert.Goals as goal

pub returns : goal.returns
returns c k = simp c.index.ensures (has_or c.args.self.now _ k ∙ ap (λ b. has c.args.self.now k || b) (has_only c.args.place k))
