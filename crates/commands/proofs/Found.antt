-- What stands next, by the first letter.
use Rattle.std.proofs.Common.{◌≡◌, ℕ, ◌+◌, ◌*◌, ◌≤◌, false, eqb, List, [], ◌∷◌, length, get_or, take, drop, sym, ap, ◌∙◌, arith}
use Rattle.std.proofs.lemmas.Bool.{cond-false, le-leb, le-ltb, eq-eqb, ne_eqb}
use Rattle.std.proofs.lemmas.List.{drop-drop}
use Rattle.values.specs.Words.{word_at}
use Rattle.commands.specs.Calls.Call.{writes}
use Rattle.commands.specs.Reading.{next_command, next_at, longest}
use Rattle.commands.specs.Reading.Found.{took}

not_letter : (x a b : ℕ) → x ≡ a → (a ≡ b → ⊥) → eqb x b ≡ false
not_letter x a b e f = ne_eqb x b (λ q. f (sym e ∙ q))

module _ (w at : ℕ) where
  pub next_write : (bs : List ℕ) → 4 + get_or bs 3 0 * (w + 2) ≤ length bs → get_or bs 0 0 ≡ 87
      → next_command w at bs ≡ took (writes (word_at bs 1) (take (get_or bs 3 0 * (w + 2)) (drop 4 bs))) (drop (get_or bs 3 0 * (w + 2)) (drop 4 bs))
  next_write [] h l = absurd (omega arith)
  next_write (x ∷ rest) h l =
      let n : ℕ = get_or rest 2 0 * (w + 2) in
      let m : 3 + n ≤ length rest = omega arith in
      simp (not_letter x 87 66 l (λ q. omega arith), not_letter x 87 82 l (λ q. omega arith), eq-eqb x 87 l, le-leb (3 + n) (length rest) m)
      (ap (took (writes (word_at rest 0) (take n (drop 3 rest)))) (sym (drop-drop n 3 rest)))

  pub in_length : (bs : List ℕ) → at + length bs ≤ longest → next_at w at bs ≡ next_command w at bs
  in_length bs h = cond-false _ _ _ (le-ltb longest (at + length bs) h)
