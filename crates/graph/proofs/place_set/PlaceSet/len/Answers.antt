use Rattle.std.proofs.Common.{sym, ◌∙◌, arith}
use Rattle.graph.specs.Members.{has, holds}
use Rattle.graph.proofs.Counting.{count_same, count_digits}
use Rattle.graph.proofs.Membership.{has_below}
use Rattle.graph.proofs.place_set.PlaceSet.len.Goals as goal

pub returns : goal.returns
returns c =
    count_digits 64 c.args.self.mask (omega arith)
    ∙ count_same (holds c.args.self.mask) (has c.args.self) 64 (λ k l. sym (has_below c.args.self k l))
