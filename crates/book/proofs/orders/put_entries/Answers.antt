use Rattle.std.proofs.Common.{ℕ, ◌+◌, sym, ◌∙◌, ap}
use Rattle.std.proofs.lemmas.List.{set_past}
use Rattle.model.specs.Orders.{raw_entry}
use Rattle.model.specs.Calls.{put_all}
use Rattle.book.specs.Entries.{valued}
use Rattle.book.proofs.Walks.{walk_ends, walk_goes_on, put_value, put_nothing}
use Rattle.book.proofs.orders.put_entries.Goals as goal

pub loop-entry-preserved-then-setting-row : goal.loop-entry-preserved-then-setting-row
loop-entry-preserved-then-setting-row g c =
    let F = c.loop-entry.invariant in
    let s = c.in-Some.ensures.steps in (
      F.0 + 1,
      walk_goes_on _ _ _ _ _ F.1 _ _ s.1.0 s.1.1 _ s.0,
      put_value _ _ _ _ _ F.1 _ _ s.1.0 s.1.1 g.K.Kind.kind.reading _ c.taken_apart-setting.ensures c.args.row.now _ F.2 _ c.in-Some-value.is _ c.from-setting.ensures,
    )

pub loop-entry-preserved-else-setting-row : goal.loop-entry-preserved-else-setting-row
loop-entry-preserved-else-setting-row g c =
    let F = c.loop-entry.invariant in
    let s = c.in-Some.ensures.steps in (
      F.0 + 1,
      walk_goes_on _ _ _ _ _ F.1 _ _ s.1.0 s.1.1 _ s.0,
      sym (set_past c.loop-entry.row c.from-setting.result c.in-Some-value.value c.if-setting-row.false)
          ∙ put_value _ _ _ _ _ F.1 _ _ s.1.0 s.1.1 g.K.Kind.kind.reading _ c.taken_apart-setting.ensures c.args.row.now _ F.2 _ c.in-Some-value.is _ c.from-setting.ensures,
    )

pub loop-entry-preserved : goal.loop-entry-preserved
loop-entry-preserved g c =
    let F = c.loop-entry.invariant in
    let s = c.in-Some.ensures.steps in (
      F.0 + 1,
      walk_goes_on _ _ _ _ _ F.1 _ _ s.1.0 s.1.1 _ s.0,
      put_nothing _ _ _ _ _ F.1 _ _ s.1.0 s.1.1 g.K.Kind.kind.reading _ c.taken_apart-setting.ensures c.args.row.now _ F.2 c.in_default.is,
    )

pub returns : goal.returns
returns g c =
    let F = c.loop-entry.invariant in
    F.2 ∙ ap (λ (n : ℕ). put_all c.args.row.now (valued g.K.Kind.kind.reading (raw_entry g.K.Kind.kind.width c.args.order.bytes.now) n)) (walk_ends _ _ _ _ _ F.1 c.in-None.ensures.steps.1.0)
