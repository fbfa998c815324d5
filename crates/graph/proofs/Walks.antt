-- Walks put together, and sets that arrows do not leave.
use Rattle.std.proofs.Common.{ℕ, Bool, T}
use Rattle.graph.specs.Walk.{Walk, one, more}

-- a walk goes on by another where the place between them passes the test
pub append : {arrow : ℕ → ℕ → Bool} {inner : ℕ → Bool} {p r q : ℕ} → Walk arrow inner p r → T (inner r) → Walk arrow inner r q → Walk arrow inner p q
append (one a) i v = more a i v
append (more a j w) i v = more a j (append w i v)

-- a set that has the places that arrows from p lead to, and that no arrow leaves, has the end of each walk from p
pub kept_in : {arrow : ℕ → ℕ → Bool} {inner : ℕ → Bool} (S : ℕ → Type 0) → ((r q : ℕ) → S r → T (arrow r q) → S q) → {p q : ℕ} → ((r : ℕ) → T (arrow p r) → S r) → Walk arrow inner p q → S q
kept_in S step {q = q} first (one a) = first q a
kept_in S step first (more {r = r} a i w) = kept_in S step (λ q b. step r q (first r a) b) w
