-- One writing behind another.
use Rattle.std.proofs.Common.{◌≡◌, ℕ, ◌+◌, ◌≤◌, List, ◌++◌, length, take, drop, sym, refl, ap, ◌∙◌, append_assoc, arith, length-append, length-drop}
use Rattle.std.proofs.lemmas.List.{drop-drop, length-take-le}
use Rattle.std.proofs.lemmas.Slice.{take-put_mid, drop-put_mid}
use borrow.Rule.Slice.PartMut.{put_mid}
use Rattle.values.specs.Output.{put_out}
use Rattle.values.proofs.Puts.{put_fits_out}

module _ (a b out : List ℕ) (at : ℕ) (h : at + length a + length b ≤ length out) where
  first_out : put_out a out at ≡ put_mid at (length a) out a
  first_out = put_fits_out a out at (omega arith) ∙ ap (λ (r : List ℕ). take at out ++ (a ++ r)) (sym (drop-drop (length a) at out))

  first_length : length (put_out a out at) ≡ length out
  first_length =
      ap length (put_fits_out a out at (omega arith))
      ∙ simp (length-append, length-drop, length-take-le at out (omega arith)) (omega arith)

  whole : length (a ++ b) ≡ length a + length b
  whole = length-append a b

  pub two_out : (mid : List ℕ) (n : ℕ) → mid ≡ put_out a out at → n ≡ at + length a → put_out b mid n ≡ put_out (a ++ b) out at
  two_out mid n e f =
      let m : length mid ≡ length out = ap length e ∙ first_length in
      let p : mid ≡ put_mid at (length a) out a = e ∙ first_out in
      let t : take n mid ≡ take at out ++ a = ap (take n) p ∙ take-put_mid at (length a) out a n f (omega arith) in
      let d : drop (n + length b) mid ≡ drop (n + length b) out = ap (drop (n + length b)) p ∙ drop-put_mid at (length a) out a (n + length b) (omega arith) (omega arith) refl in
      let s : n + length b ≡ at + length (a ++ b) = omega (arith, whole) in
      put_fits_out b mid n (omega arith)
      ∙ rw (t, d, s) (append_assoc (take at out) a (b ++ drop (at + length (a ++ b)) out) ∙ ap (λ (r : List ℕ). take at out ++ r) (sym (append_assoc a b (drop (at + length (a ++ b)) out))))
      ∙ sym (put_fits_out (a ++ b) out at (omega (arith, whole)))
