use Rattle.std.proofs.Common.{◌≡◌, ℕ}
use Rattle.std.specs.Slice.Iter.{chunks_exact_rest, chunks_exact_size}
use Rattle.model.specs.Orders.{raw_entry}
use Rattle.model.specs.Calls.{put_all}
use Rattle.book.specs.Entries.{valued}
use Rattle.book.proofs.Walks.{Walked}
use Rattle.book.proofs.orders.put_entries.Given as goal

abbrev pub invariant-loop-entry : goal.invariant-loop-entry
invariant-loop-entry g l =
    (i : ℕ) × Walked g.K.Kind.kind.width l.order.bytes.now (chunks_exact_size l.entry-iterator) (chunks_exact_rest l.entry-iterator) i
    × (l.row ≡ put_all l.initial.row (valued g.K.Kind.kind.reading (raw_entry g.K.Kind.kind.width l.order.bytes.now) i))
