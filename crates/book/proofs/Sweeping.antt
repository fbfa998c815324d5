-- One question of a sweep.
use Rattle.std.proofs.Common.{◌≡◌, ℕ, ◌+◌, T, length, Some, sym, ap, arith}
use Rattle.model.specs.Book.{Book, is_held, forgotten}
use Rattle.model.specs.Possible.{Possible}
use Rattle.model.specs.Policies.{Policy, Lawful}
use Rattle.model.specs.Sweeps.{sweep_answer, sweep_next, sweep_book}
use Rattle.model.proofs.MayForget.{may_finished}
use Rattle.model.proofs.BookGraph.{finished_held}
use Rattle.model.proofs.Sweeps.{sweep_exact}

module _ {S : Type 0} (p : Policy S) (lawful : Lawful p) (s : S) (b : Book) (h : Possible b) (n : ℕ) (named : p.answer s b ≡ Some n) where
  pub named_held : T (is_held b n)
  named_held = finished_held b n (may_finished b n (lawful.may_be s b n h named))

  -- the rest of the sweep forgets one job less and ends as the whole
  pub one_forgotten : (t : S) (c : Book) → t ≡ p.next s b → c ≡ forgotten b n
      → (sweep_answer p s b ≡ sweep_answer p t c + 1) × (sweep_next p t c ≡ sweep_next p s b) × (sweep_book p t c ≡ sweep_book p s b)
  one_forgotten t c i j =
      let r = (sweep_exact p lawful s b h).goes_on n named in
      rw (i, j) (let k = ap length r.0 in omega arith, sym r.1, sym r.2)
