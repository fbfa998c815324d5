use Rattle.std.specs.Iterator.Adapters.{enumerate_source, enumerate_count}
use Rattle.std.specs.Slice.Iter.{chunks_exact_rest, chunks_exact_size}
use Rattle.book.proofs.Checking.{SoFar}
use Rattle.book.proofs.Walks.{Walked}
use Rattle.book.proofs.books.Book.named_settings.Given as goal

abbrev pub invariant-loop-i : goal.invariant-loop-i
invariant-loop-i g l =
    SoFar g.K.Kind.kind l.self.settings l.order.bytes.now l.named (enumerate_count l.i-iterator)
    × Walked g.K.Kind.kind.width l.order.bytes.now (chunks_exact_size (enumerate_source l.i-iterator)) (chunks_exact_rest (enumerate_source l.i-iterator)) (enumerate_count l.i-iterator)
