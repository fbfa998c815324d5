-- The settings of the jobs at the places of a set, gathered place by place.
use Rattle.std.proofs.Common.{◌≡◌, ℕ, Bool, false, not, ◌||◌, T, eqb, sym, subst, inl, inr}
use Rattle.std.proofs.lemmas.Bool.{cases_eq}
use Rattle.graph.specs.declared.place_set.PlaceSet.{PlaceSet}
use Rattle.graph.specs.Members.{has, First}
use Rattle.model.proofs.Tests.{and_i, and_l, or_e, or_l, or_r, apart}

-- what was gathered comes from the places of the set, and what they have is gathered or they are left
pub record Gathered (have : ℕ → ℕ → Bool) (all left : PlaceSet) (got : ℕ → Bool) : Type 0 where
  pub within : (k : ℕ) → T (has left k) → T (has all k)
  pub sound : (e : ℕ) → T (got e) → (k : ℕ) × T (has all k) × T (have k e)
  pub full : (k e : ℕ) → T (has all k) → T (have k e) → T (has left k || got e)

module _ (have : ℕ → ℕ → Bool) (all : PlaceSet) where
  pub gathered_more : (left rest : PlaceSet) (n : ℕ) (got more : ℕ → Bool) → Gathered have all left got → First left rest n
      → ((e : ℕ) → more e ≡ (got e || have n e)) → Gathered have all rest more
  gathered_more left rest n got more g f is = record {
    within = λ k t. g.within k (and_l (has left k) (not (eqb k n)) (subst T (f.others k) t));
    sound = λ e t. elim (or_e (got e) (have n e) (subst T (is e) t)) [
      | inl s ↦ g.sound e s
      | inr s ↦ (n, g.within n f.member, s)
    ];
    full = λ k e m t. elim (or_e (has left k) (got e) (g.full k e m t)) [
      | inl s ↦ elim (cases_eq k n) [
        | inl q ↦ or_r (has rest k) (more e) (subst T (sym (is e)) (or_r (got e) (have n e) (subst (λ i. T (have i e)) q t)))
        | inr d ↦ or_l (has rest k) (more e) (subst T (sym (f.others k)) (and_i (has left k) (not (eqb k n)) s (apart k n d)))
      ]
      | inr s ↦ or_r (has rest k) (more e) (subst T (sym (is e)) (or_l (got e) (have n e) s))
    ];
  }

  pub gathered_all : (left : PlaceSet) (got : ℕ → Bool) → Gathered have all left got → ((k : ℕ) → has left k ≡ false)
      → (k e : ℕ) → T (has all k) → T (have k e) → T (got e)
  gathered_all left got g none k e m t = subst (λ v. T (v || got e)) (none k) (g.full k e m t)
