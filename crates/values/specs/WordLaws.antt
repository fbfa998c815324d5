-- Laws of words and of lists of bytes. They stand here, and not in proofs/, since the records of the kinds hold proofs.
use Rattle.std.specs.Prelude.{◌≡◌, ℕ, suc, ◌+◌, ◌*◌, ◌<◌, ◌≤◌, Bool, true, false, cond, ◌&&◌, List, [], ◌∷◌, ◌++◌, length, take, drop, Some, None, Option, ◌==◌, nat_lt, slice_index, slice_index_or, refl}
use Rattle.std.proofs.Common.{ap, ◌∙◌, arith, add-zero, length-drop}
use Rattle.std.proofs.lemmas.List.{append-nil, drop_all, drop-drop, get_or-drop, take-append-drop}
use Rattle.std.proofs.lemmas.Bool.{and_parts, and_from, lt-ltb, ltb-true, eqb-true, eq-eqb}
use Rattle.std.proofs.lemmas.Nat.{mod_below, div-mul-add, mod-mul-add, div_below}
use Rattle.values.specs.Words.{word, word_at, bytes_only, are_bytes, if_true}

-- what comes of a test, either way

module _ {A : Type 0} where
  pub passes : (b : Bool) (f : b ≡ true → A) (v : A) → b ≡ true → ((e : b ≡ true) → f e ≡ v) → if_true b f ≡ Some v
  passes true f v e q = ap Some (q refl)
  passes false f v e q = let z : ◌≡◌ {A = ℕ} 0 1 = cc in absurd (omega arith)

  pub passed : (b : Bool) (f : b ≡ true → A) (v : A) → if_true b f ≡ Some v → (e : b ≡ true) × (f e ≡ v)
  passed true f v e = (refl, cc)
  passed false f v e = let z : ◌≡◌ {A = ℕ} 0 1 = cc in absurd (omega arith)

  pub only_if_some : (b : Bool) (o : Option A) (v : A) → cond b o None ≡ Some v → (b ≡ true) × (o ≡ Some v)
  only_if_some true o v e = (refl, e)
  only_if_some false o v e = let z : ◌≡◌ {A = ℕ} 0 1 = cc in absurd (omega arith)

-- the bytes of a number, and the number of two bytes

pub word_bytes : (n : ℕ) → n < 65536 → bytes_only (word n) ≡ true
word_bytes n h =
    and_from _ _ (lt-ltb _ _ (div_below n 256 256 (omega arith) (omega arith))) (and_from _ _ (lt-ltb _ _ (mod_below n 256 (omega arith))) refl)

pub word_of : (high low : ℕ) → low < 256 → word (high * 256 + low) ≡ high ∷ low ∷ []
word_of high low h = rw (div-mul-add high 256 low h, mod-mul-add high 256 low h)

pub bytes_behind : (xs ys : List ℕ) → bytes_only (xs ++ ys) ≡ true → bytes_only ys ≡ true
bytes_behind [] ys e = e
bytes_behind (x ∷ xs) ys e = bytes_behind xs ys (and_parts (nat_lt x 256) (bytes_only (xs ++ ys)) e).1

-- bytes begin with the bytes of the number that stands in front
word_front : (bytes : List ℕ) → 2 ≤ length bytes → bytes_only bytes ≡ true → word (word_at bytes 0) ++ drop 2 bytes ≡ bytes
word_front [] h b = absurd (omega arith)
word_front (x ∷ []) h b = absurd (omega arith)
word_front (x ∷ y ∷ bytes) h b =
    let p = and_parts (nat_lt x 256) (nat_lt y 256 && bytes_only bytes) b in
    let q = and_parts (nat_lt y 256) (bytes_only bytes) p.1 in
    ap (λ (l : List ℕ). l ++ bytes) (word_of x y (ltb-true y 256 q.0))

-- from a place on, bytes are those of the number that stands there, and what is behind it
pub word_next : (i : ℕ) (bytes : List ℕ) → i + 2 ≤ length bytes → bytes_only bytes ≡ true → word (word_at bytes i) ++ drop (i + 2) bytes ≡ drop i bytes
word_next i bytes h b =
    let l : 2 ≤ length (drop i bytes) = simp length-drop (omega arith) in
    let only : bytes_only (drop i bytes) ≡ true = bytes_behind (take i bytes) (drop i bytes) (ap bytes_only (take-append-drop i bytes) ∙ b) in
    let high : slice_index_or (drop i bytes) 0 0 ≡ slice_index_or bytes i 0 = get_or-drop i bytes 0 0 ∙ ap (λ (n : ℕ). slice_index bytes n) (add-zero i) in
    let low : slice_index_or (drop i bytes) 1 0 ≡ slice_index_or bytes (i + 1) 0 = get_or-drop i bytes 1 0 in
    rw (← high, ← low, ← drop-drop 2 i bytes) (word_front (drop i bytes) l only)

-- what is behind all bytes is nothing
pub none_behind : (n : ℕ) (bytes front : List ℕ) → length bytes ≡ n → front ++ drop n bytes ≡ front
none_behind n bytes front e = ap (λ (r : List ℕ). front ++ r) (drop_all n bytes (omega arith)) ∙ append-nil front

pub bytes_join : (xs ys : List ℕ) → bytes_only xs ≡ true → bytes_only ys ≡ true → bytes_only (xs ++ ys) ≡ true
bytes_join [] ys e f = f
bytes_join (x ∷ xs) ys e f = let p = and_parts (nat_lt x 256) (bytes_only xs) e in and_from _ _ p.0 (bytes_join xs ys p.1 f)

-- what a slice of bytes holds are bytes
pub bytes_typed : (bytes : List ℕ) → ((i : ℕ) → slice_index bytes i < 256) → bytes_only bytes ≡ true
bytes_typed [] f = refl
bytes_typed (b ∷ bs) f = and_from _ _ (lt-ltb b 256 (f 0)) (bytes_typed bs (λ i. f (suc i)))

pub are_typed : (n : ℕ) (bytes : List ℕ) → length bytes ≡ n → ((i : ℕ) → slice_index bytes i < 256) → are_bytes n bytes ≡ true
are_typed n bytes e f = and_from _ _ (eq-eqb _ _ e) (bytes_typed bytes f)

-- so many bytes, taken apart
pub bytes_of : (n : ℕ) (bytes : List ℕ) → are_bytes n bytes ≡ true → (length bytes ≡ n) × (bytes_only bytes ≡ true)
bytes_of n bytes e = let p = and_parts (length bytes == n) (bytes_only bytes) e in (eqb-true _ _ p.0, p.1)
