-- Plans: the minute on, the minute off and the level, two bytes each, the high one first; on before off, and off at most 1439.
use Rattle.std.specs.Prelude.{◌≡◌, ℕ, suc, ◌<◌, ◌≤◌, Bool, true, cond, ◌&&◌, List, ◌++◌, length, drop, Some, None, Option, nat_le, nat_lt, refl}
use Rattle.std.proofs.Common.{sym, ap, ◌∙◌, arith}
use mathlib.Core.HLevel.{is_prop→PathP}
use Rattle.std.proofs.Math.Bridge.{le_prop}
use Rattle.std.proofs.lemmas.Bool.{leb-true, le-leb, lt-ltb, ltb-true, and_parts, and_from, cond-true}
use Rattle.std.proofs.lemmas.Nat.{div-add-mod'}
use Rattle.model.specs.Kinds.{Kind}
use Rattle.values.specs.declared.levels.Level.{Level}
use Rattle.values.specs.declared.plans.Plan.{Plan}
use Rattle.values.specs.Words.{word, word_at, are_bytes, if_true}
use Rattle.values.specs.WordLaws.{passes, passed, only_if_some, word_bytes, bytes_join, word_next, none_behind, bytes_of}
use Rattle.values.specs.Levels.{level_of, level_written, level_of_value, level_of_was}

-- the last minute at which a lamp may go off
abbrev pub last_minute : ℕ
last_minute = 1439

-- the minutes are in order and in range
abbrev pub minutes_fit : ℕ → ℕ → Bool
minutes_fit on off = nat_lt on off && nat_le off last_minute

pub fitting : (on off : ℕ) → minutes_fit on off ≡ true → (on < off) × (off ≤ last_minute)
fitting on off e =
    let p = and_parts (nat_lt on off) (nat_le off last_minute) e in
    (ltb-true on off p.0, leb-true off last_minute p.1)

-- the plan of two minutes and a level
abbrev pub plan_of : ℕ → ℕ → Level → Option Plan
plan_of on off level = if_true (minutes_fit on off) (λ e. record { on = on; off = off; level = level; ordered = (fitting on off e).0; ranged = (fitting on off e).1 })

-- the same, of a level that there may be
abbrev pub plan_at : ℕ → ℕ → Option Level → Option Plan
plan_at on off None = None
plan_at on off (Some level) = plan_of on off level

abbrev pub plan_read : List ℕ → Option Plan
plan_read bytes = cond (are_bytes 6 bytes) (plan_at (word_at bytes 0) (word_at bytes 2) (level_of (word_at bytes 4))) None

abbrev pub plan_written : Plan → List ℕ
plan_written p = word p.on ++ (word p.off ++ level_written p.level)

-- plans of one pair of minutes and one level are equal
plan_eq : (p q : Plan) → p.on ≡ q.on → p.off ≡ q.off → p.level ≡ q.level → p ≡ q
plan_eq p q e f g = λ i. record {
  on = e i;
  off = f i;
  level = g i;
  ordered = is_prop→PathP (λ j. e j < f j) (λ j. le_prop {n = suc (e j)} {m = f j}) p.ordered q.ordered i;
  ranged = is_prop→PathP (λ j. f j ≤ last_minute) (λ j. le_prop {n = f j} {m = last_minute}) p.ranged q.ranged i;
}

pub plan_of_parts : (on off : ℕ) (level : Level) (p : Plan) → on ≡ p.on → off ≡ p.off → level ≡ p.level → plan_of on off level ≡ Some p
plan_of_parts on off level p e f g =
    let a : p.on < p.off = p.ordered in
    let b : p.off ≤ last_minute = p.ranged in
    passes _ _ p (and_from _ _ (lt-ltb on off (omega arith)) (le-leb off last_minute (omega arith))) (λ q. plan_eq _ p e f g)

plan_at_level : (on off : ℕ) (o : Option Level) (p : Plan) → plan_at on off o ≡ Some p → (on ≡ p.on) × (off ≡ p.off) × (o ≡ Some p.level)
plan_at_level on off None p e = let z : ◌≡◌ {A = ℕ} 0 1 = cc in absurd (omega arith)
plan_at_level on off (Some level) p e =
    let q = (passed _ _ p e).1 in
    (ap (λ (r : Plan). r.on) q, ap (λ (r : Plan). r.off) q, ap (λ (r : Plan). Some r.level) q)

plan_at_parts : (on off : ℕ) (o : Option Level) (p : Plan) → on ≡ p.on → off ≡ p.off → o ≡ Some p.level → plan_at on off o ≡ Some p
plan_at_parts on off o p e f g = ap (plan_at on off) g ∙ plan_of_parts on off p.level p e f refl

plan_read_some : (bytes : List ℕ) (p : Plan) → are_bytes 6 bytes ≡ true → plan_at (word_at bytes 0) (word_at bytes 2) (level_of (word_at bytes 4)) ≡ Some p → plan_read bytes ≡ Some p
plan_read_some bytes p b e = cond-true _ _ _ b ∙ e

pub plan_reads : (p : Plan) → plan_read (plan_written p) ≡ Some p
plan_reads p =
    let a : p.on < p.off = p.ordered in
    let b : p.off ≤ last_minute = p.ranged in
    let c : p.level.value ≤ 1000 = p.level.ranged in
    plan_read_some (plan_written p) p
    (bytes_join (word p.on) (word p.off ++ level_written p.level) (word_bytes p.on (omega arith)) (bytes_join (word p.off) (level_written p.level) (word_bytes p.off (omega arith)) (word_bytes p.level.value (omega arith))))
    (plan_at_parts _ _ _ p (div-add-mod' p.on 256) (div-add-mod' p.off 256) (level_of_value _ p.level (div-add-mod' p.level.value 256)))

pub plan_writes : (bytes : List ℕ) (p : Plan) → plan_read bytes ≡ Some p → plan_written p ≡ bytes
plan_writes bytes p e =
    let t = only_if_some (are_bytes 6 bytes) (plan_at (word_at bytes 0) (word_at bytes 2) (level_of (word_at bytes 4))) p e in
    let q = plan_at_level (word_at bytes 0) (word_at bytes 2) (level_of (word_at bytes 4)) p t.1 in
    let on : word_at bytes 0 ≡ p.on = q.0 in
    let off : word_at bytes 2 ≡ p.off = q.1 in
    let level : word_at bytes 4 ≡ p.level.value = level_of_was (word_at bytes 4) p.level q.2 in
    let b = bytes_of 6 bytes t.0 in
    let n : length bytes ≡ 6 = b.0 in
    let third : word (word_at bytes 4) ≡ drop 4 bytes = sym (none_behind 6 bytes (word (word_at bytes 4)) n) ∙ word_next 4 bytes (omega arith) b.1 in
    let second : word (word_at bytes 2) ++ drop 4 bytes ≡ drop 2 bytes = word_next 2 bytes (omega arith) b.1 in
    let first : word (word_at bytes 0) ++ drop 2 bytes ≡ bytes = word_next 0 bytes (omega arith) b.1 in
    rw (← on, ← off, ← level) (ap (λ (r : List ℕ). word (word_at bytes 0) ++ (word (word_at bytes 2) ++ r)) third ∙ ap (λ (r : List ℕ). word (word_at bytes 0) ++ r) second ∙ first)

abbrev pub plan_kind : Kind Plan
plan_kind = record {
  width = 6;
  reading = plan_read;
  writing = plan_written;
  narrow = (omega arith, omega arith);
  sized = λ p. refl;
  reads_back = plan_reads;
  writes_back = plan_writes;
}
