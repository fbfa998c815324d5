-- Numbers of two bytes, the high byte first, and lists of bytes.
use Rattle.std.specs.Prelude.{◌≡◌, ℕ, ◌+◌, ◌*◌, ◌/◌, ◌%◌, Bool, true, false, ◌&&◌, List, [], ◌∷◌, length, Some, None, Option, ◌==◌, nat_lt, slice_index, refl}

-- the two bytes of a number below 65,536
abbrev pub word : ℕ → List ℕ
word n = n / 256 ∷ n % 256 ∷ []

-- the number whose two bytes stand at a place
abbrev pub word_at : List ℕ → ℕ → ℕ
word_at bytes i = slice_index bytes i * 256 + slice_index bytes (i + 1)

-- every member is a byte
abbrev pub bytes_only : List ℕ → Bool
bytes_only [] = true
bytes_only (b ∷ bs) = nat_lt b 256 && bytes_only bs

-- so many bytes
abbrev pub are_bytes : ℕ → List ℕ → Bool
are_bytes n bytes = length bytes == n && bytes_only bytes

-- a value that can be made once a test has passed
abbrev pub if_true : {A : Type 0} (b : Bool) → (b ≡ true → A) → Option A
if_true true f = Some (f refl)
if_true false f = None
