-- Bytes put into an output, one piece behind another.
use Rattle.std.proofs.Common.{◌≡◌, ℕ, ◌+◌, ◌-◌, ◌≤◌, Bool, true, false, cond, leb, List, ◌++◌, length, take, drop, Ok, Err, Result, sym, ap, ◌∙◌, subst, arith, length-append, length-drop}
use Rattle.std.proofs.lemmas.List.{length-take-le, take_at}
use Rattle.model.specs.declared.refusals.Refusal.{Refusal}
use Rattle.model.specs.declared.refusals.Refusal.TheVariants.{NoRoom}
use Rattle.values.specs.Output.{put_answer, put_out}
use Rattle.values.proofs.Puts.{put_fits_out}
use Rattle.commands.proofs.Writing.{two_out}
use Rattle.stream.specs.declared.output.Output.{Output}
use Rattle.stream.specs.Puts.{Stand, Puts}

put_length : (xs out : List ℕ) (at : ℕ) → at + length xs ≤ length out → length (take at out ++ (xs ++ drop (at + length xs) out)) ≡ length out
put_length xs out at h = simp (length-append, length-drop, length-take-le at out (omega arith)) (omega arith)

-- one piece behind another
pub puts_then : {xs ys : List ℕ} {a b c : Output} {r : Result (Unit {0}) Refusal} → Puts xs a (Ok tt) b → Puts ys b r c → Puts (xs ++ ys) a r c
puts_then {xs = xs} {ys = ys} {a = a} {b = b} {c = c} {r = r} p q = record { same = q.same ∙ p.same; puts = λ h. both h }
  where
    both : a.at + length (xs ++ ys) ≤ length a.bytes.now → Stand (xs ++ ys) a r c
    both h =
        let whole = length-append xs ys in
        let first : a.at + length xs ≤ length a.bytes.now = omega (arith, whole) in
        let x = p.puts first in
        let more : b.at + length ys ≤ length b.bytes.now = omega (arith, whole, x.behind, ap length x.stands ∙ put_length xs a.bytes.now a.at first) in
        let y = q.puts more in
        record {
          answers = y.answers;
          behind = omega (arith, whole, x.behind, y.behind);
          stands =
              y.stands ∙ sym (put_fits_out ys b.bytes.now b.at more)
              ∙ two_out xs ys a.bytes.now a.at (omega (arith, h, whole)) b.bytes.now b.at (x.stands ∙ sym (put_fits_out xs a.bytes.now a.at first)) x.behind ∙ put_fits_out (xs ++ ys) a.bytes.now a.at h;
        }

-- a piece that has room is not refused
pub puts_not : {xs : List ℕ} {a b : Output} {e : Refusal} → Puts xs a (Err e) b → a.at + length xs ≤ length a.bytes.now → ⊥
puts_not p h = let f = (p.puts h).answers in let z : ◌≡◌ {A = ℕ} 0 1 = cc in omega arith

-- a piece that found no room leaves nothing to be said of the whole
pub puts_broke : {xs : List ℕ} {a b : Output} {e : Refusal} {r : Result (Unit {0}) Refusal} (ys : List ℕ) → Puts xs a (Err e) b → Puts (xs ++ ys) a r b
puts_broke {xs = xs} ys p = record { same = p.same; puts = λ h. absurd (puts_not p (omega (arith, length-append xs ys))) }

-- of bytes that are the same
pub puts_same : {xs ys : List ℕ} {a b : Output} {r : Result (Unit {0}) Refusal} → xs ≡ ys → Puts xs a r b → Puts ys a r b
puts_same {a = a} {b = b} {r = r} e p = subst (λ (bytes : List ℕ). Puts bytes a r b) e p

-- what stands in front once bytes were put there
pub front_written : (bytes after out : List ℕ) (n : ℕ) → Ok n ≡ put_answer bytes out 0 → after ≡ put_out bytes out 0 → take (n - 0) after ≡ bytes
front_written bytes after out n e f = go (leb (0 + length bytes) (length out)) e f
  where
    go : (b : Bool) → ◌≡◌ {A = Result ℕ Refusal} (Ok n) (cond b (Ok (0 + length bytes)) (Err NoRoom)) → after ≡ cond b (bytes ++ drop (0 + length bytes) out) out → take (n - 0) after ≡ bytes
    go true e f = let m : n ≡ 0 + length bytes = cc in ap (take (n - 0)) f ∙ take_at bytes _ (n - 0) (omega arith)
    go false e f = let z : ◌≡◌ {A = ℕ} 0 1 = cc in absurd (omega arith)
