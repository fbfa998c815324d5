-- Levels: two bytes, the high one first, from 0 to 1000.
use Rattle.std.specs.Prelude.{◌≡◌, ℕ, ◌≤◌, cond, List, Some, None, Option, nat_le, refl}
use Rattle.std.proofs.Common.{sym, ap, ◌∙◌, arith}
use mathlib.Core.HLevel.{is_prop→PathP}
use Rattle.std.proofs.Math.Bridge.{le_prop}
use Rattle.std.proofs.lemmas.Bool.{leb-true, le-leb, cond-true}
use Rattle.std.proofs.lemmas.Nat.{div-add-mod'}
use Rattle.model.specs.Kinds.{Kind}
use Rattle.values.specs.declared.levels.Level.{Level}
use Rattle.values.specs.Words.{word, word_at, are_bytes, if_true}
use Rattle.values.specs.WordLaws.{passes, passed, only_if_some, word_bytes, word_next, none_behind, bytes_of}

-- the level of so many per mille
abbrev pub level_of : ℕ → Option Level
level_of n = if_true (nat_le n 1000) (λ e. record { value = n; ranged = leb-true n 1000 e })

abbrev pub level_read : List ℕ → Option Level
level_read bytes = cond (are_bytes 2 bytes) (level_of (word_at bytes 0)) None

abbrev pub level_written : Level → List ℕ
level_written v = word v.value

-- levels of one value are equal
level_eq : (v w : Level) → v.value ≡ w.value → v ≡ w
level_eq v w e = λ i. record { value = e i; ranged = is_prop→PathP (λ j. e j ≤ 1000) (λ j. le_prop {n = e j} {m = 1000}) v.ranged w.ranged i }

pub level_of_value : (n : ℕ) (v : Level) → n ≡ v.value → level_of n ≡ Some v
level_of_value n v e = let o : v.value ≤ 1000 = v.ranged in passes _ _ v (le-leb n 1000 (omega arith)) (λ q. level_eq _ v e)

pub level_of_was : (n : ℕ) (v : Level) → level_of n ≡ Some v → n ≡ v.value
level_of_was n v e = ap (λ (l : Level). l.value) (passed _ _ v e).1

pub level_reads : (v : Level) → level_read (level_written v) ≡ Some v
level_reads v =
    let o : v.value ≤ 1000 = v.ranged in
    cond-true _ _ _ (word_bytes v.value (omega arith)) ∙ level_of_value _ v (div-add-mod' v.value 256)

pub level_writes : (bytes : List ℕ) (v : Level) → level_read bytes ≡ Some v → level_written v ≡ bytes
level_writes bytes v e =
    let p = only_if_some _ _ v e in
    let b = bytes_of 2 bytes p.0 in
    ap word (sym (level_of_was _ v p.1)) ∙ sym (none_behind 2 bytes (word (word_at bytes 0)) b.0) ∙ word_next 0 bytes (omega (arith, b.0)) b.1

abbrev pub level_kind : Kind Level
level_kind = record {
  width = 2;
  reading = level_read;
  writing = level_written;
  narrow = (omega arith, omega arith);
  sized = λ v. refl;
  reads_back = level_reads;
  writes_back = level_writes;
}
