use Rattle.std.proofs.Common.{◌≡◌, ◌+◌, ◌<◌, Err, sym, ap, ◌∙◌, subst, arith, rules}
use Rattle.std.specs.Iterator.Adapters.{enumerate_source, enumerate_count}
use Rattle.std.specs.Result.{result_ok}
use Rattle.std.specs.Slice.Iter.{chunks_exact_rest, chunks_exact_size}
use Rattle.model.specs.declared.refusals.Refusal.TheVariants.{EntrySetting, EntryValue}
use Rattle.model.specs.Orders.{raw_entry, entry_count}
use Rattle.book.proofs.Entries.{formed_few}
use Rattle.book.proofs.Checking.{SoFar, so_far_all, refused_setting, refused_repeated, refused_value, so_far_more}
use Rattle.book.proofs.Options.{gave, lacked}
use Rattle.book.proofs.Walks.{Walked, still, walk_ends, walk_goes_on, index_is, read_is}
use Rattle.book.proofs.books.Book.named_settings.Given as given
use Rattle.book.proofs.books.Book.named_settings.Goals as goal
use Rattle.book.proofs.books.Book.named_settings.Goals.{After-taken_apart-index, In_ok-setting}

module _ (g : given.Over) (c : After-taken_apart-index g) where
  so_far : SoFar g.K.Kind.kind c.args.self.now.settings c.args.order.bytes.now c.loop-i.named c.in-Some.i
  so_far = subst (SoFar g.K.Kind.kind c.args.self.now.settings c.args.order.bytes.now c.loop-i.named) (sym c.in-Some.ensures.steps.1) c.loop-i.invariant.0

  walked : Walked g.K.Kind.kind.width c.args.order.bytes.now (chunks_exact_size (enumerate_source c.loop-i.i-iterator)) (chunks_exact_rest (enumerate_source c.loop-i.i-iterator)) c.in-Some.i
  walked = subst (Walked g.K.Kind.kind.width c.args.order.bytes.now (chunks_exact_size (enumerate_source c.loop-i.i-iterator)) (chunks_exact_rest (enumerate_source c.loop-i.i-iterator)))
      (sym c.in-Some.ensures.steps.1) c.loop-i.invariant.1

  low : c.in-Some.i < entry_count g.K.Kind.kind.width c.args.order.bytes.now
  low = let s = c.in-Some.ensures.steps.0 in still _ _ _ _ _ walked _ _ s.1.0 s.1.1

  index : c.taken_apart-index.result.0 ≡ (raw_entry g.K.Kind.kind.width c.args.order.bytes.now c.in-Some.i).0
  index = let s = c.in-Some.ensures.steps.0 in index_is _ _ _ _ _ walked _ _ s.1.0 s.1.1 g.K.Kind.kind.reading _ c.taken_apart-index.ensures

  value : c.taken_apart-index.result.1 ≡ g.K.Kind.kind.reading (raw_entry g.K.Kind.kind.width c.args.order.bytes.now c.in-Some.i).1
  value = let s = c.in-Some.ensures.steps.0 in read_is _ _ _ _ _ walked _ _ s.1.0 s.1.1 g.K.Kind.kind.reading _ c.taken_apart-index.ensures

pub loop-i-init : goal.loop-i-init
loop-i-init g c = (search rules, search rules)

pub overflow_cast-number : goal.overflow_cast-number
overflow_cast-number g c =
    let few = formed_few g.K.Kind.kind.width c.args.order.bytes.now c.in_ok-ok_or.field-0 (sym (c.ok_or.ensures.ok_part ∙ ap result_ok c.in_ok-ok_or.was) ∙ c.entries.ensures) in
    let l = low g (goal.at.overflow_cast-number g c).After-taken_apart-index in
    omega arith

pub overflow_add-number : goal.overflow_add-number
overflow_add-number g c =
    let few = formed_few g.K.Kind.kind.width c.args.order.bytes.now c.in_ok-ok_or.field-0 (sym (c.ok_or.ensures.ok_part ∙ ap result_ok c.in_ok-ok_or.was) ∙ c.entries.ensures) in
    let l = low g (goal.at.overflow_add-number g c).After-taken_apart-index in
    omega arith

pub returns-in_err-setting : goal.returns-in_err-setting
returns-in_err-setting g c =
    let b = (goal.at.returns-in_err-setting g c).After-taken_apart-index in
    let refused : c.from_residual-in_err-setting.result ≡ Err (EntrySetting (c.in-Some.i + 1)) = search rules in
    rw refused (refused_setting g.K.Kind.kind _ _ _ _ (so_far g b) (low g b) _ (index g b)
    (lacked _ _ c.ok_or-in-loop-i.ensures.ok_part _ _ c.setting.ensures c.in_err-setting.was))

module _ (g : given.Over) (c : In_ok-setting g) where
  found_setting : (c.in_ok-setting.setting.index ≡ c.taken_apart-index.result.0) × (c.taken_apart-index.result.0 < c.args.self.now.settings)
  found_setting = gave _ _ c.ok_or-in-loop-i.ensures.ok_part _ _ c.setting.ensures c.in_ok-setting.setting c.in_ok-setting.was

  small : c.in_ok-setting.setting.index < c.args.self.now.settings
  small = subst (λ x. x < c.args.self.now.settings) (sym found_setting.0) found_setting.1

pub returns-then-contains : goal.returns-then-contains
returns-then-contains g c =
    let b = (goal.at.returns-then-contains g c).After-taken_apart-index in
    let d = (goal.at.returns-then-contains g c).In_ok-setting in
    refused_repeated g.K.Kind.kind _ _ _ _ (so_far g b) (low g b) _ ((found_setting g d).0 ∙ index g b) (small g d) (sym c.if-contains.ensures)

pub returns-in_err-ok_or-2 : goal.returns-in_err-ok_or-2
returns-in_err-ok_or-2 g c =
    let b = (goal.at.returns-in_err-ok_or-2 g c).After-taken_apart-index in
    let d = (goal.at.returns-in_err-ok_or-2 g c).In_ok-setting in
    let refused : c.from_residual-in_err-ok_or-2.result ≡ Err (EntryValue (c.in-Some.i + 1)) = search rules in
    rw refused (refused_value g.K.Kind.kind _ _ _ _ (so_far g b) (low g b) _ ((found_setting g d).0 ∙ index g b) (small g d) (sym c.if-contains.ensures)
    (sym (c.ok_or-in-loop-i-2.ensures.ok_part ∙ ap result_ok c.in_err-ok_or-2.was) ∙ value g b))

pub loop-i-preserved : goal.loop-i-preserved
loop-i-preserved g c =
    let b = (goal.at.loop-i-preserved g c).After-taken_apart-index in
    let d = (goal.at.loop-i-preserved g c).In_ok-setting in
    let s = c.in-Some.ensures.steps in
    let more = so_far_more g.K.Kind.kind _ _ _ _ (so_far g b) (low g b) _ ((found_setting g d).0 ∙ index g b) (small g d) (sym c.if-contains.ensures) _
    (sym (c.ok_or-in-loop-i-2.ensures.ok_part ∙ ap result_ok c.in_ok-ok_or-2.was) ∙ value g b) c.insert.new.self c.insert.ensures in
    let goes = walk_goes_on _ _ _ _ _ (walked g b) _ _ s.0.1.0 s.0.1.1 _ s.0.0 in
    let next : enumerate_count c.next.new.self ≡ c.in-Some.i + 1 = cc in
    (rw next more, rw next goes)

pub returns : goal.returns
returns g c =
    let end = walk_ends _ _ _ _ _ c.loop-i.invariant.1 c.in-None.ensures.steps.0.1.0 in
    so_far_all g.K.Kind.kind c.args.self.now.settings c.args.order.bytes.now c.loop-i.named
    (subst (SoFar g.K.Kind.kind c.args.self.now.settings c.args.order.bytes.now c.loop-i.named) end c.loop-i.invariant.0)
