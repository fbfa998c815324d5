-- What stands in a stream that is whole commands.
use Rattle.std.proofs.Common.{◌≡◌, ℕ, suc, pred, ◌+◌, ◌-◌, ◌≤◌, List, [], ◌∷◌, length, ap, ◌∙◌, arith}
use Rattle.model.specs.Lists.{map_list}
use Rattle.commands.specs.Calls.{Call}
use Rattle.commands.specs.Reading.{Found}
use Rattle.commands.specs.Laws.{Reads}
use Rattle.commands.specs.Laws.Reads.{no_more, and_then}
use Rattle.commands.proofs.Taken.{taken_less}
use Rattle.stream.specs.Streams.{Item, item_first, items_from}
use Rattle.stream.specs.Streams.Item.{command}
use Rattle.stream.specs.Laws.{EveryWholeStreamIsItsCommands}
use Rattle.stream.proofs.Going.{suc_pred}

reads_items : (w most at : ℕ) (bytes : List ℕ) (cs : List Call) → length bytes ≤ most → Reads w at bytes cs → items_from w (suc most) at bytes ≡ map_list command cs
reads_items w most at bytes [] h (no_more e) = ap (λ (f : Found). item_first f (λ r. items_from w most (at + (length bytes - length r)) r)) e
reads_items w most at bytes (c ∷ cs) h (and_then {next = next} {rest = rest} e q r) =
    let l = taken_less w at bytes rest c e in
    let m : most ≡ suc (pred most) = suc_pred most (omega (arith, l, h)) in
    let o : at + (length bytes - length rest) ≡ next = omega (arith, l, q) in
    ap (λ (f : Found). item_first f (λ r. items_from w most (at + (length bytes - length r)) r)) e
    ∙ ap (λ (n : ℕ). command c ∷ items_from w most n rest) o
    ∙ ap (λ (n : ℕ). command c ∷ items_from w n next rest) m
    ∙ ap (λ (is : List Item). command c ∷ is) (reads_items w (pred most) next rest cs (omega (arith, l, h)) r)

pub whole_items : EveryWholeStreamIsItsCommands
whole_items w bytes cs r = reads_items w (length bytes) 0 bytes cs (omega arith) r
