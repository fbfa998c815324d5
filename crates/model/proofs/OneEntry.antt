-- An order of one entry.
use Rattle.std.proofs.Common.{◌≡◌, ℕ, ◌+◌, ◌*◌, ◌/◌, ◌<◌, true, false, ◌&&◌, T, eqb, ltb, leb, List, [], ◌∷◌, length, Some, None, Ok, Option, refl, ap, ◌∙◌, one-mul, zero-mul, arith, lt→ltb, take_all}
use native.Mathlib.Nat.{div_self}
use Rattle.model.specs.Lists.{each_of, below, map_list}
use Rattle.model.specs.Kinds.{Kind}
use Rattle.model.specs.Orders.{raw_entry, has_letter, raw_entries, most_entries, entry_letter}
use Rattle.model.specs.Calls.{checked_entries, order_entries}
use Rattle.model.proofs.Tests.{T_true, eqb_of}

-- the entries of an order, where it has n of them
abbrev raw_by : ℕ → List ℕ → ℕ → Option (List (ℕ × List ℕ))
raw_by w bytes n =
    elim (eqb (n * (w + 2)) (length bytes) && (leb n most_entries && each_of (has_letter w bytes) (below n))) [
      | false ↦ None
      | true ↦ Some (map_list (raw_entry w bytes) (below n))
    ]

raw_one : (w : ℕ) (bytes : List ℕ) → w + 2 ≡ length bytes → T (has_letter w bytes 0) → raw_by w bytes 1 ≡ Some (raw_entry w bytes 0 ∷ [])
raw_one w bytes h t =
    rw (T_true (eqb (1 * (w + 2)) (length bytes)) (eqb_of (1 * (w + 2)) (length bytes) (one-mul (w + 2) ∙ h)), T_true (has_letter w bytes 0) t, raw_by) refl

module _ {V : Type 0} (k : Kind V) (e : ℕ) (v : V) where
  abbrev pub one_order : List ℕ
  one_order = entry_letter ∷ (e ∷ k.writing v)

  one_length : k.width + 2 ≡ length one_order
  one_length = let h : length (k.writing v) ≡ k.width = k.sized v in omega arith

  one_raw : raw_entries k.width one_order ≡ Some ((e, k.writing v) ∷ [])
  one_raw =
      let w : ℕ = k.width in
      let count : length one_order / (w + 2) ≡ 1 = rw (← one_length) (div_self (omega arith)) in
      let letter : T (has_letter w one_order 0) = rw (zero-mul (w + 2)) tt in
      let entry : raw_entry w one_order 0 ≡ (e, k.writing v) = rw (zero-mul (w + 2)) (ap (λ (t : List ℕ). (e, t)) (take_all w (k.writing v) (omega (arith, k.sized v)))) in
      ap (raw_by w one_order) count ∙ (raw_one w one_order one_length letter ∙ ap (λ (r : ℕ × List ℕ). Some (r ∷ [])) entry)

  one_checked : (s : ℕ) → e < s → checked_entries k.reading s 1 [] ((e, k.writing v) ∷ []) ≡ Ok ((e, v) ∷ [])
  one_checked s fits = rw (T_true (ltb e s) (lt→ltb e s fits), k.reads_back v, checked_entries) refl

pub one_entry : {V : Type 0} (k : Kind V) (e s : ℕ) (v : V) → e < s → order_entries k s (one_order k e v) ≡ Ok ((e, v) ∷ [])
one_entry k e s v fits = rw (one_raw k e v, order_entries) (one_checked k e v s fits)
