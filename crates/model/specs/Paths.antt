-- Whether a path exists, by computing.
use Rattle.std.specs.Prelude.{ℕ, Bool, ◌&&◌, ◌||◌, List, [], ◌∷◌}

-- a path of one arrow or more leads from p to q, and its jobs strictly between p and q are all in the list
abbrev pub joined : (ℕ → ℕ → Bool) → List ℕ → ℕ → ℕ → Bool
joined arrow [] p q = arrow p q
joined arrow (k ∷ ks) p q = joined arrow ks p q || (joined arrow ks p k && joined arrow ks k q)
