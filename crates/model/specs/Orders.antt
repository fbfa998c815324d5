-- An order as bytes: entries one behind another, each the letter V, a setting of one byte and the bytes of a value.
use Rattle.std.specs.Prelude.{ℕ, ◌+◌, ◌*◌, ◌/◌, Bool, true, false, ◌&&◌, List, length, take, drop, Some, None, Option, ◌==◌, nat_le, slice_index}
use Rattle.model.specs.Lists.{each_of, below, map_list}

-- V
abbrev pub entry_letter : ℕ
entry_letter = 86

abbrev pub most_entries : ℕ
most_entries = 64

-- how many bytes an entry has, where a value has w of them
abbrev pub entry_size : ℕ → ℕ
entry_size w = w + 2

-- the i-th entry, counted from 0: its setting and the bytes of its value
abbrev pub raw_entry : ℕ → List ℕ → ℕ → ℕ × List ℕ
raw_entry w bytes i = (slice_index bytes (i * entry_size w + 1), take w (drop (i * entry_size w + 2) bytes))

-- whether the i-th entry begins with its letter
abbrev pub has_letter : ℕ → List ℕ → ℕ → Bool
has_letter w bytes i = slice_index bytes (i * entry_size w) == entry_letter

-- how many whole entries the bytes have room for
abbrev pub entry_count : ℕ → List ℕ → ℕ
entry_count w bytes = length bytes / entry_size w

-- whole entries, not too many, each with its letter
abbrev pub order_formed : ℕ → List ℕ → Bool
order_formed w bytes =
    (entry_count w bytes * entry_size w == length bytes)
    && (nat_le (entry_count w bytes) most_entries && each_of (has_letter w bytes) (below (entry_count w bytes)))

-- the entries of an order, where it has the form of one
abbrev pub raw_entries : ℕ → List ℕ → Option (List (ℕ × List ℕ))
raw_entries w bytes = elim (order_formed w bytes) [
  | false ↦ None
  | true ↦ Some (map_list (raw_entry w bytes) (below (entry_count w bytes)))
]
