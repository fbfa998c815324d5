-- A walk over the entries of an order, as chunks of its bytes.
use Rattle.std.proofs.Common.{◌≡◌, ℕ, ◌+◌, ◌-◌, ◌*◌, ◌/◌, ◌<◌, ◌≤◌, List, ◌++◌, length, get_or, drop, take, set, Some, None, Option, sym, ap, ◌∙◌, ap₂, arith, add-one, add_comm, length-drop, length-append}
use Rattle.std.specs.List.{slice_index}
use Rattle.std.proofs.Math.Nat.{suc-mul}
use Rattle.std.proofs.Math.Seq.{drop-append_seam, take-append_seam}
use Rattle.std.proofs.lemmas.List.{get_or-drop, get_or_append_left, drop-drop, drop-take}
use Rattle.std.proofs.lemmas.Nat.{le-div, div_below}
use Rattle.model.specs.Orders.{raw_entry, entry_size, entry_count}
use Rattle.model.specs.Calls.{put_all}
use Rattle.book.specs.Entries.{valued}
use Rattle.book.proofs.Entries.{put_none, put_some}

-- the first i entries of the bytes have been passed
pub record Walked (w : ℕ) (bytes : List ℕ) (size : ℕ) (left : List ℕ) (i : ℕ) : Type 0 where
  pub sized : size ≡ entry_size w
  pub left_is : left ≡ drop (i * entry_size w) bytes
  pub within : i * entry_size w ≤ length bytes

module _ (w : ℕ) (bytes : List ℕ) where
  module _ (size : ℕ) (left : List ℕ) (i : ℕ) (W : Walked w bytes size left i) where
    next : (i + 1) * entry_size w ≡ i * entry_size w + entry_size w
    next = rw add-one (suc-mul i (w + 2))

    long_left : length left ≡ length bytes - i * entry_size w
    long_left = ap length W.left_is ∙ length-drop (i * (w + 2)) bytes

    pub walk_ends : length left < size → i ≡ entry_count w bytes
    walk_ends short =
        let n = next in
        let s = W.sized in
        let l = long_left in
        let t = W.within in
        let low : i ≤ length bytes / (w + 2) = le-div i (length bytes) (w + 2) (omega arith) t in
        let high : length bytes / (w + 2) < i + 1 = div_below (length bytes) (w + 2) (i + 1) (omega arith) (omega arith) in
        omega arith

    module _ (x after : List ℕ) (split : left ≡ x ++ after) (long : length x ≡ size) where
      room : i * entry_size w + entry_size w ≤ length bytes
      room =
          let s = W.sized in
          let l = long_left in
          let t = W.within in
          let sum = ap length split ∙ length-append x after in
          omega arith

      pub still : i < entry_count w bytes
      still =
          let n = next in
          let r = room in
          let low : i + 1 ≤ length bytes / (w + 2) = le-div (i + 1) (length bytes) (w + 2) (omega arith) (omega arith) in
          omega arith

      pub walk_goes_on : (size' : ℕ) → size' ≡ size → Walked w bytes size' after (i + 1)
      walk_goes_on size' same = record {
        sized = same ∙ W.sized;
        left_is = sym (drop-append_seam x after) ∙ ap₂ (λ (n : ℕ) (ys : List ℕ). drop n ys) (long ∙ W.sized) (sym split ∙ W.left_is)
            ∙ drop-drop (w + 2) (i * (w + 2)) bytes ∙ ap (λ (n : ℕ). drop n bytes) (sym next);
        within = let n = next in let r = room in omega arith;
      }

      whole : x ≡ take (entry_size w) (drop (i * entry_size w) bytes)
      whole = sym (take-append_seam x after) ∙ ap₂ (λ (n : ℕ) (ys : List ℕ). take n ys) (long ∙ W.sized) (sym split ∙ W.left_is)

      pub setting_is : slice_index x 1 ≡ (raw_entry w bytes i).0
      setting_is =
          let l : 1 < length x = (let s = W.sized in omega arith) in
          sym (get_or_append_left x after 0 1 l) ∙ ap (λ (ys : List ℕ). get_or ys 1 0) (sym split ∙ W.left_is) ∙ get_or-drop (i * (w + 2)) bytes 1 0

      pub value_is : drop 2 x ≡ (raw_entry w bytes i).1
      value_is = ap (drop 2) whole ∙ ap (λ (n : ℕ). drop 2 (take n (drop (i * (w + 2)) bytes))) (add_comm w 2) ∙ drop-take 2 w (drop (i * (w + 2)) bytes)
          ∙ ap (take w) (drop-drop 2 (i * (w + 2)) bytes)

      -- what the entry says, taken apart, is what the order says there
      module _ {V : Type 0} (reading : List ℕ → Option V) (p : ℕ × Option V) (apart : p ≡ (slice_index x 1, reading (drop 2 x))) where
        pub index_is : p.0 ≡ (raw_entry w bytes i).0
        index_is = ap (λ (q : ℕ × Option V). q.0) apart ∙ setting_is

        pub read_is : p.1 ≡ reading (raw_entry w bytes i).1
        read_is = ap (λ (q : ℕ × Option V). q.1) apart ∙ ap reading value_is

        module _ (row now : List V) (so_far : now ≡ put_all row (valued reading (raw_entry w bytes) i)) where
          pub put_value : (v : V) → p.1 ≡ Some v → (e : ℕ) → e ≡ p.0 → set now e v ≡ put_all row (valued reading (raw_entry w bytes) (i + 1))
          put_value v is e at = ap₂ (λ (r : List V) (d : ℕ). set r d v) so_far (at ∙ index_is) ∙ sym (put_some reading (raw_entry w bytes) row i v (sym read_is ∙ is))

          pub put_nothing : p.1 ≡ None → now ≡ put_all row (valued reading (raw_entry w bytes) (i + 1))
          put_nothing is = so_far ∙ sym (put_none reading (raw_entry w bytes) row i (sym read_is ∙ is))
