use Rattle.std.proofs.Common.{◌∙◌}
use Rattle.graph.proofs.Listing.{listed_more, listed_over}
use Rattle.graph.proofs.Lines.{more_next, more_over}
use Rattle.graph.proofs.matrix.Matrix.join_all.Goals as goal

pub loop-place-preserved : goal.loop-place-preserved
loop-place-preserved c = λ p q.
    more_next _ _ _ _ _ _ p q (c.join.ensures p q) (listed_more _ _ _ p c.in-Some.ensures.steps) ∙ c.loop-place.invariant p q

pub returns : goal.returns
returns c = λ p q. more_over _ _ _ p q (listed_over _ c.in-None.ensures.steps.0) ∙ c.loop-place.invariant p q
