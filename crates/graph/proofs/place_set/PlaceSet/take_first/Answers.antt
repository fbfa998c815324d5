use Rattle.std.proofs.Common.{◌≡◌, arith}
use lib.Count.{count_trailing_zeros}
use Rattle.graph.specs.Members.{Empty}
use Rattle.graph.proofs.Placing.{placed_index, unplaced}
use Rattle.graph.proofs.Membership.{has_zero, no_first, some_first, first}
use Rattle.graph.proofs.place_set.PlaceSet.take_first.Goals as goal
use Rattle.graph.proofs.place_set.PlaceSet.take_first.Goals.{In_ok-first}

pub returns-in_err-first : goal.returns-in_err-first
returns-in_err-first c =
    let none : Empty c.args.self.now = has_zero c.args.self.now (no_first c.args.self.now.mask (omega arith) (unplaced _ c.in_err-first.ensures)) in
    simp c.from_residual.ensures (none, none)

at_first : (c : goal.In_ok-first) → c.in_ok-first.first.index ≡ count_trailing_zeros 64 c.args.self.now.mask
at_first c = placed_index _ c.in_ok-first.first c.in_ok-first.ensures

pub overflow_sub-self : goal.overflow_sub-self
overflow_sub-self c = some_first c.args.self.now.mask (omega (arith, at_first c, c.in_ok-first.first.small))

pub returns : goal.returns
returns c = first c.args.self.now.mask c.in_ok-first.first.index (omega arith) (at_first (goal.at.returns c).In_ok-first) c.in_ok-first.first.small
