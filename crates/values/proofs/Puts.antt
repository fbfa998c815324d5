use Rattle.std.proofs.Common.{◌≡◌, ℕ, ◌+◌, ◌≤◌, List, ◌++◌, length, take, drop, Ok}
use Rattle.std.proofs.lemmas.Bool.{le-leb, cond-true}
use Rattle.values.specs.Output.{put_answer, put_out}

module _ (bytes out : List ℕ) (at : ℕ) (h : at + length bytes ≤ length out) where
  pub put_fits : put_answer bytes out at ≡ Ok (at + length bytes)
  put_fits = cond-true _ _ _ (le-leb _ _ h)

  pub put_fits_out : put_out bytes out at ≡ take at out ++ (bytes ++ drop (at + length bytes) out)
  put_fits_out = cond-true _ _ _ (le-leb _ _ h)
