-- What stood next in a stream, by what the reader answered.
use Rattle.std.proofs.Common.{◌≡◌, ℕ, ◌+◌, ◌<◌, ◌≤◌, eqb, ltb, leb, List, [], ◌∷◌, length, Some, None, sym, refl, ap, ◌∙◌, arith}
use Rattle.model.specs.declared.faults.Fault.{Fault}
use Rattle.model.specs.declared.faults.Fault.TheVariants.{TooLong, NoLetter, CutShort}
use Rattle.model.specs.Refusals.{fault_offset}
use Rattle.commands.specs.Calls.{Call, begin_letter, read_letter, write_letter, withdraw_letter, sweep_letter}
use Rattle.commands.specs.Reading.{Found, next_command, next_at, with_operands, call_taken, rest_behind, fault_met, longest}
use Rattle.commands.specs.Reading.Found.{ended, took, stopped}
use Rattle.commands.proofs.Taken.{split, taken_less, was_taken}

not_taken : (f : Found) (bytes : List ℕ) → None ≡ call_taken f → rest_behind bytes f ≡ bytes
not_taken ended bytes e = refl
not_taken (took d rest) bytes e = let z : ◌≡◌ {A = ℕ} 0 1 = cc in absurd (omega arith)
not_taken (stopped g) bytes e = refl

was_stopped : (f : Found) (g : Fault) → Some g ≡ fault_met f → f ≡ stopped g
was_stopped ended g e = let z : ◌≡◌ {A = ℕ} 0 1 = cc in absurd (omega arith)
was_stopped (took c rest) g e = let z : ◌≡◌ {A = ℕ} 0 1 = cc in absurd (omega arith)
was_stopped (stopped h) g e = let s : h ≡ g = cc in ap stopped s

was_ended : (f : Found) → None ≡ call_taken f → None ≡ fault_met f → f ≡ ended
was_ended ended e d = refl
was_ended (took c rest) e d = let z : ◌≡◌ {A = ℕ} 0 1 = cc in absurd (omega arith)
was_ended (stopped g) e d = let z : ◌≡◌ {A = ℕ} 0 1 = cc in absurd (omega arith)

-- the reader stood at an offset and then at another, and what is left of the stream is what it leaves behind
module _ (w at at' : ℕ) (rest rest' : List ℕ) (q : at' + length rest' ≡ at + length rest) (r : rest' ≡ rest_behind rest (next_at w at rest)) where
  -- a command was taken
  module _ (c : Call) (e : Some c ≡ call_taken (next_at w at rest)) where
    pub took_it : next_at w at rest ≡ took c rest'
    took_it = was_taken (next_at w at rest) c rest e ∙ ap (took c) (sym r)

    pub shorter : length rest' < length rest
    shorter = taken_less w at rest rest' c took_it

  -- none was taken
  module _ (e : None ≡ call_taken (next_at w at rest)) where
    same_rest : rest' ≡ rest
    same_rest = r ∙ not_taken (next_at w at rest) rest e

    same_place : next_at w at' rest' ≡ next_at w at rest
    same_place = let s : at' ≡ at = omega (arith, ap length same_rest) in rw (s, same_rest)

    pub met_end : None ≡ fault_met (next_at w at' rest') → next_at w at rest ≡ ended
    met_end d = was_ended (next_at w at rest) e (d ∙ ap fault_met same_place)

    pub met_fault : (g : Fault) → Some g ≡ fault_met (next_at w at' rest') → next_at w at rest ≡ stopped g
    met_fault g d = was_stopped (next_at w at rest) g (d ∙ ap fault_met same_place)

-- a fault names a byte that was come to

same_fault : (f g : Fault) → stopped f ≡ stopped g → f ≡ g
same_fault f g e = cc

with_near : (at n : ℕ) (c : Call) (bs : List ℕ) (f : Fault) → with_operands at n c bs ≡ stopped f → fault_offset f ≤ at
with_near at n c bs f e =
    split (leb n (length bs)) _ _ _ e
    (λ p q. let z : ◌≡◌ {A = ℕ} 0 1 = cc in absurd (omega arith))
    (λ p q. let h : at ≡ fault_offset f = ap fault_offset (same_fault (CutShort at) f q) in omega arith)

command_near : (w at : ℕ) (bs : List ℕ) (f : Fault) → next_command w at bs ≡ stopped f → fault_offset f ≤ at
command_near w at [] f e = let z : ◌≡◌ {A = ℕ} 0 1 = cc in absurd (omega arith)
command_near w at (x ∷ bs) f e =
    split (eqb x begin_letter) _ _ _ e (λ p q. let z : ◌≡◌ {A = ℕ} 0 1 = cc in absurd (omega arith)) (λ p e.
    split (eqb x read_letter) _ _ _ e (λ p q. with_near _ _ _ bs f q) (λ p e.
    split (eqb x write_letter) _ _ _ e (λ p q. with_near _ _ _ bs f q) (λ p e.
    split (eqb x withdraw_letter) _ _ _ e (λ p q. with_near _ _ _ bs f q) (λ p e.
    split (eqb x sweep_letter) _ _ _ e (λ p q. let z : ◌≡◌ {A = ℕ} 0 1 = cc in absurd (omega arith)) (λ p e.
    let h : at ≡ fault_offset f = ap fault_offset (same_fault (NoLetter at) f e) in omega arith)))))

pub stopped_near : (w at : ℕ) (bs : List ℕ) (f : Fault) → next_at w at bs ≡ stopped f → fault_offset f ≤ at
stopped_near w at bs f e =
    split (ltb longest (at + length bs)) _ _ _ e
    (λ p q. let h : 0 ≡ fault_offset f = ap fault_offset (same_fault TooLong f q) in omega arith)
    (λ p q. command_near w at bs f q)
