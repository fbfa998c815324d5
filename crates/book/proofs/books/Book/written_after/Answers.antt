use Rattle.std.proofs.Common.{◌&&◌, ◌||◌, sym, ap, ◌∙◌, ap₂}
use mathlib.Core.Bool.{or-false}
use Rattle.graph.specs.declared.matrix.Matrix.{Matrix}
use Rattle.graph.specs.Drawn.{drawn}
use Rattle.graph.specs.Members.{has}
use Rattle.graph.proofs.Listing.{listed_head, listed_over}
use Rattle.table.specs.Slots.{passes, has_setting}
use Rattle.table.specs.Touching.{wrote}
use Rattle.book.proofs.Asking.{not_held_not_after, after_is}
use Rattle.book.proofs.Gathering.{gathered_more}
use Rattle.book.proofs.books.Book.written_after.Goals as goal

pub returns-in_default : goal.returns-in_default
returns-in_default c e = c.empty-written.ensures e ∙ not_held_not_after c.args.self.now c.args.job e c.in_default.ensures

pub loop-head-preserved-in-Some-job : goal.loop-head-preserved-in-Some-job
loop-head-preserved-in-Some-job c =
    gathered_more _ _ _ _ c.in-Some-head.head.index _ _ c.loop-head.invariant (listed_head _ _ _ c.in-Some-head.ensures.steps)
    (λ e. c.union-written.ensures e ∙ ap (λ o. has_setting c.loop-head.written e || passes (wrote e) o) c.in-Some-job.ensures)

pub loop-head-preserved : goal.loop-head-preserved
loop-head-preserved c =
    gathered_more _ _ _ _ c.in-Some-head.head.index _ _ c.loop-head.invariant (listed_head _ _ _ c.in-Some-head.ensures.steps)
    (λ e. sym (ap (λ o. has_setting c.loop-head.written e || passes (wrote e) o) (sym c.in_default-job.ensures) ∙ or-false (has_setting c.loop-head.written e)))

pub returns : goal.returns
returns c e =
    after_is c.args.self.now c.args.job e c.in-Some.place.index c.in-Some.ensures c.into_iter-head-iterator.result.left
    (λ k. ap (λ s. has s k) c.into_iter-head-iterator.ensures.into_iter_gives ∙ c.common-head-items.ensures k
    ∙ ap₂ ◌&&◌ (c.row.ensures k ∙ ap (λ (m : Matrix). drawn m.rows c.in-Some.place.index k) c.arrows.ensures) (c.finished.ensures k))
    c.loop-head.head-iterator.left (has_setting c.loop-head.written) c.loop-head.invariant (listed_over _ c.in-None.ensures.steps.0)
