use Rattle.std.proofs.Common.{◌≡◌, ◌+◌, ◌*◌, drop, length, string_bytes}
use Rattle.listing.specs.Lines.{entries_words}
use Rattle.listing.proofs.lines.entries_text.Given as goal

abbrev pub invariant-loop-i : goal.invariant-loop-i
invariant-loop-i l = record {
  text : string_bytes l.text ≡ entries_words l.order l.i-iterator.count;
  size : l.i-iterator.iter.size ≡ 4;
  rest : l.i-iterator.iter.rest.now ≡ drop (l.i-iterator.count * 4) l.order;
  length : l.i-iterator.count * 4 + length l.i-iterator.iter.rest.now ≡ length l.order;
}
