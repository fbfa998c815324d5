-- What is known where a command was taken.
use Rattle.std.proofs.Common.{◌≡◌, ℕ, ◌+◌, ◌<◌, ◌≤◌, Bool, true, false, cond, eqb, ltb, leb, List, [], ◌∷◌, length, drop, Some, sym, refl, ap, ◌∙◌, arith, length-drop}
use Rattle.std.proofs.lemmas.Bool.{leb-true, ltb-false}
use Rattle.commands.specs.Calls.{Call, begin_letter, read_letter, write_letter, withdraw_letter, sweep_letter}
use Rattle.commands.specs.Reading.{Found, next_command, next_at, with_operands, call_taken, rest_behind, longest}
use Rattle.commands.specs.Reading.Found.{ended, took, stopped}

pub split : {A P : Type 0} (b : Bool) (x y z : A) → cond b x y ≡ z → (b ≡ true → x ≡ z → P) → (b ≡ false → y ≡ z → P) → P
split true x y z e f g = f refl e
split false x y z e f g = g refl e

pub taken : (c d : Call) (r s : List ℕ) → took c r ≡ took d s → (c ≡ d) × (r ≡ s)
taken c d r s e = (cc, cc)

pub with_taken : (at n : ℕ) (c d : Call) (bs rest : List ℕ) → with_operands at n c bs ≡ took d rest → (n ≤ length bs) × (c ≡ d) × (drop n bs ≡ rest)
with_taken at n c d bs rest e =
    split (leb n (length bs)) _ _ _ e
    (λ p q. (leb-true n (length bs) p, (taken _ _ _ _ q).0, (taken _ _ _ _ q).1))
    (λ p q. let z : ◌≡◌ {A = ℕ} 0 1 = cc in absurd (omega arith))

-- the stream was not too long
pub found_within : (w at : ℕ) (bs rest : List ℕ) (c : Call) → next_at w at bs ≡ took c rest → (at + length bs ≤ longest) × (next_command w at bs ≡ took c rest)
found_within w at bs rest c e =
    split (ltb longest (at + length bs)) _ _ _ e
    (λ p q. let z : ◌≡◌ {A = ℕ} 0 1 = cc in absurd (omega arith))
    (λ p q. (ltb-false longest (at + length bs) p, q))

with_less : (at n : ℕ) (c d : Call) (bs rest : List ℕ) → with_operands at n c bs ≡ took d rest → length rest ≤ length bs
with_less at n c d bs rest e = let t = with_taken at n c d bs rest e in let l = ap length t.2 in omega (arith, length-drop n bs)

next_less : (w at : ℕ) (bs rest : List ℕ) (c : Call) → next_command w at bs ≡ took c rest → length rest < length bs
next_less w at [] rest c e = let z : ◌≡◌ {A = ℕ} 0 1 = cc in absurd (omega arith)
next_less w at (x ∷ bs) rest c e =
    let m : length rest ≤ length bs =
    split (eqb x begin_letter) _ _ _ e (λ p q. let l = ap length (taken _ _ _ _ q).1 in omega arith) (λ p e.
    split (eqb x read_letter) _ _ _ e (λ p q. with_less _ _ _ _ bs _ q) (λ p e.
    split (eqb x write_letter) _ _ _ e (λ p q. with_less _ _ _ _ bs _ q) (λ p e.
    split (eqb x withdraw_letter) _ _ _ e (λ p q. with_less _ _ _ _ bs _ q) (λ p e.
    split (eqb x sweep_letter) _ _ _ e (λ p q. let l = ap length (taken _ _ _ _ q).1 in omega arith) (λ p e.
    let z : ◌≡◌ {A = ℕ} 0 1 = cc in absurd (omega arith)))))) in
    omega arith

-- a command that was taken leaves fewer bytes
pub taken_less : (w at : ℕ) (bs rest : List ℕ) (c : Call) → next_at w at bs ≡ took c rest → length rest < length bs
taken_less w at bs rest c e = next_less w at bs rest c (found_within w at bs rest c e).1

pub was_taken : (f : Found) (c : Call) (bytes : List ℕ) → Some c ≡ call_taken f → f ≡ took c (rest_behind bytes f)
was_taken ended c bytes e = let z : ◌≡◌ {A = ℕ} 0 1 = cc in absurd (omega arith)
was_taken (took d rest) c bytes e = let s : d ≡ c = cc in ap (λ (x : Call). took x rest) s
was_taken (stopped g) c bytes e = let z : ◌≡◌ {A = ℕ} 0 1 = cc in absurd (omega arith)

pub less_taken : (w at : ℕ) (bs rest : List ℕ) (c : Call) → Some c ≡ call_taken (next_at w at bs) → rest ≡ rest_behind bs (next_at w at bs) → length rest < length bs
less_taken w at bs rest c e r = taken_less w at bs rest c (was_taken (next_at w at bs) c bs e ∙ ap (took c) (sym r))
