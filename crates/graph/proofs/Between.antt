-- Walks over the arrows that leave `start` or an inner place are the walks whose inner places pass the test.
use Rattle.std.proofs.Common.{ℕ, Bool, ◌||◌, T, eqb, ◌⊎◌, subst, inl, inr, ⊎_elim, eqb→eq}
use lib.Dec.{eqb_refl}
use Rattle.graph.specs.Walk.{Walk, one, more, Answers, anywhere, through}
use Rattle.graph.proofs.Bools.{and_fst, and_snd, and_both, or_either, or_fst, or_snd}

module _ (arrow : ℕ → ℕ → Bool) (start : ℕ) (inner : ℕ → Bool) where
  -- the first place of a walk is the start or passes the test
  leaves : {p q : ℕ} → Walk (through arrow start inner) anywhere p q → T (eqb p start) ⊎ T (inner p)
  leaves (one {p = p} {q = q} a) = or_either (eqb p start) (inner p) (and_fst (eqb p start || inner p) (arrow p q) a)
  leaves (more {p = p} {r = r} a i w) = or_either (eqb p start) (inner p) (and_fst (eqb p start || inner p) (arrow p r) a)

  -- a walk that comes by the start again is one from the start
  inner_or : {p q : ℕ} → Walk (through arrow start inner) anywhere p q → Walk arrow inner p q ⊎ Walk arrow inner start q
  inner_or (one {p = p} {q = q} a) = inl (one (and_snd (eqb p start || inner p) (arrow p q) a))
  inner_or (more {p = p} {r = r} {q = q} a i w) =
      ⊎_elim
      (λ v. ⊎_elim
      (λ e. inr (subst (λ n. Walk arrow inner n q) (eqb→eq r start e) v))
      (λ t. inl (more (and_snd (eqb p start || inner p) (arrow p r) a) t v))
      (leaves w))
      (λ v. inr v)
      (inner_or w)

  outer : {p q : ℕ} → T (eqb p start || inner p) → Walk arrow inner p q → Walk (through arrow start inner) anywhere p q
  outer h (one {p = p} {q = q} a) = one (and_both (eqb p start || inner p) (arrow p q) h a)
  outer h (more {p = p} {r = r} a i w) = more (and_both (eqb p start || inner p) (arrow p r) h a) tt (outer (or_snd (eqb r start) (inner r) i) w)

  pub answers_through : (q : ℕ) (b : Bool) → Answers (through arrow start inner) anywhere start q b → Answers arrow inner start q b
  answers_through q b e = (λ t. ⊎_elim (λ v. v) (λ v. v) (inner_or (e.0 t)), λ w. e.1 (outer (or_fst (eqb start start) (inner start) (eqb_refl start)) w))
