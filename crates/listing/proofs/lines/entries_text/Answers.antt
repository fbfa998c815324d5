use Rattle.std.proofs.Common.{ℕ, ◌*◌, List, ◌++◌, length, drop, string_bytes, sym, ap, ◌∙◌, arith, length-append}
use Rattle.listing.specs.Lines.{value_words, between, entries_words}
use Rattle.listing.proofs.Texts.{entry_at, entries_more}
use Rattle.listing.proofs.lines.entries_text.Goals as goal

pub loop-i-preserved : goal.loop-i-preserved
loop-i-preserved c =
    let order : List ℕ = c.args.order.now in
    let text : List ℕ = string_bytes c.loop-i.text in
    let n : ℕ = c.loop-i.i-iterator.count in
    let s = c.in-Some.ensures.steps in
    let at = entry_at order c.in-Some.entry.now c.next.new.self.iter.rest.now n (sym c.loop-i.invariant.rest ∙ s.0.1.0) (s.0.1.1 ∙ c.loop-i.invariant.size) in
    let more =
    entries_more order text (string_bytes c.in_ok-format.field-0) c.separator-before.result.now (string_bytes c.in_ok-value.value) _ n
    c.loop-i.invariant.text (c.separator-before.ensures ∙ ap between s.1) (c.in_ok-value.ensures ∙ ap value_words at.1) at.0 c.in_ok-format.ensures.ok in
    record {
      text =
          c.in_ok-push_str.ensures.bytes ∙ ap (λ (more : List ℕ). text ++ more) c.as_str.ensures.value
          ∙ more ∙ ap (entries_words order) (sym s.2);
      size = s.0.0 ∙ c.loop-i.invariant.size;
      rest = at.2 ∙ ap (λ (i : ℕ). drop (i * 4) order) (sym s.2);
      length = omega (arith, s.2, ap length s.0.1.0, length-append c.in-Some.entry.now c.next.new.self.iter.rest.now, s.0.1.1, c.loop-i.invariant.size, c.loop-i.invariant.length);
    }
