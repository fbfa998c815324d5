-- Bytes in hexadecimal.
use Rattle.std.proofs.Common.{◌≡◌, ℕ, ◌+◌, ◌/◌, ◌%◌, ◌<◌, List, [], ◌∷◌, ◌++◌, length, get_or, take, drop, sym, refl, ap, ◌∙◌}
use Rattle.std.proofs.lemmas.List.{take_more, take-append-drop}
use Rattle.stream.specs.Lines.{hex, hex_digit}

pub hex_append : (xs ys : List ℕ) → hex (xs ++ ys) ≡ hex xs ++ hex ys
hex_append [] ys = refl
hex_append (x ∷ xs) ys = ap (λ (more : List ℕ). hex_digit (x / 16) ∷ (hex_digit (x % 16) ∷ more)) (hex_append xs ys)

pub two_digits : (b high low : ℕ) → high ≡ hex_digit (b / 16) → low ≡ hex_digit (b % 16) → high ∷ (low ∷ []) ≡ hex (b ∷ [])
two_digits b high low e f = rw (e, f)

-- one byte more
pub hex_more : (xs : List ℕ) (i : ℕ) → i < length xs → hex (take i xs) ++ hex (get_or xs i 0 ∷ []) ≡ hex (take (i + 1) xs)
hex_more xs i h = sym (hex_append (take i xs) (get_or xs i 0 ∷ [])) ∙ ap hex (sym (take_more xs i 0 h))

-- up to a byte, the byte, and what follows
pub hex_split : (xs : List ℕ) (i : ℕ) → i < length xs → (hex (take i xs) ++ hex (get_or xs i 0 ∷ [])) ++ hex (drop (i + 1) xs) ≡ hex xs
hex_split xs i h =
    ap (λ (front : List ℕ). front ++ hex (drop (i + 1) xs)) (hex_more xs i h)
    ∙ sym (hex_append (take (i + 1) xs) (drop (i + 1) xs)) ∙ ap hex (take-append-drop (i + 1) xs)
