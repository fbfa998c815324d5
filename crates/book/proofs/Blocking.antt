-- The blocker, from the first pair at which a job lacks a stand-in.
use Rattle.std.proofs.Common.{◌≡◌, ℕ, Bool, true, false, not, ◌&&◌, T, is_some, Some, None, Ok, Err, Option, Result, sym, refl, ap, ◌∙◌, inl, inr, arith, T_not}
use Rattle.std.proofs.lemmas.Bool.{cond-true}
use Rattle.model.specs.declared.refusals.Refusal.{Refusal}
use Rattle.model.specs.declared.refusals.Refusal.TheVariants.{NotFinished}
use Rattle.model.specs.Lists.{first_of, below}
use Rattle.model.specs.Book.{Book, is_finished, touched_by, active, tight_path}
use Rattle.model.specs.Forgetting.{has_stand_in, may_forget}
use Rattle.model.specs.Blocker.{lacks, pairs, blocker, Lacking}
use Rattle.model.proofs.Tests.{and_l, and_r, T_true}
use Rattle.model.proofs.Lists.{among_below}
use Rattle.model.proofs.MayForget.{may_forget_e}
use Rattle.model.proofs.Blocker.{blocker_exact}
use Rattle.table.proofs.Touches.{same_answer}
use Rattle.book.specs.Lacks.{FirstLack}

module _ (b : Book) (i : ℕ) where
  -- a job that may be forgotten lacks no stand-in
  none_lacking : T (may_forget b i) → (j e : ℕ) → Lacking b i j e → ⊥
  none_lacking t j e w =
      let r : T (touched_by b i e && not (has_stand_in b i j e)) = and_r (tight_path b j i) _ w.2 in
      T_not _ (and_r (touched_by b i e) _ r) (may_forget_e b i t j w.0 (and_l (tight_path b j i) _ w.2) e (among_below b.settings e w.1) (and_l (touched_by b i e) _ r))

  abbrev first : Option (ℕ × ℕ)
  first = first_of (lacks b i) (pairs (active b) (below b.settings))

  module _ (fin : T (is_finished b i)) where
    answered : blocker b i ≡ Ok first
    answered = cond-true (is_finished b i) (Ok first) (Err NotFinished) (T_true _ fin)

    same : (o f : Option (ℕ × ℕ)) → first ≡ f → FirstLack b i o → o ≡ f
    same None None q h = refl
    same (Some x) None q h = absurd (none_lacking ((blocker_exact b i).none.0 (answered ∙ ap Ok q)) x.0 x.1 h.0)
    same None (Some p) q h = absurd (h p.0 p.1 ((blocker_exact b i).some_lacks p.0 p.1 (answered ∙ ap Ok q)))
    same (Some x) (Some p) q h = elim ((blocker_exact b i).some_smallest p.0 p.1 (answered ∙ ap Ok q) x.0 x.1 h.0) [
      | inl e ↦ λ k. Some (sym e.0 k, sym e.1 k)
      | inr s ↦ absurd (h.1 p.0 p.1 ((blocker_exact b i).some_lacks p.0 p.1 (answered ∙ ap Ok q)) s)
    ]

    pub blocker_is : (o : Option (ℕ × ℕ)) → FirstLack b i o → Ok o ≡ blocker b i
    blocker_is o h = ap Ok (same o first refl h) ∙ sym answered

  pub blocker_refused : (r : Refusal) → Err r ≡ blocker b i → false ≡ may_forget b i
  blocker_refused r e = same_answer false (may_forget b i) (λ t. absurd t)
      (λ t. let q = e ∙ (blocker_exact b i).none.1 t in let z : ◌≡◌ {A = ℕ} 0 1 = cc in absurd (omega arith))

  pub blocker_found : (o : Option (ℕ × ℕ)) → Ok o ≡ blocker b i → (v : Bool) → is_some o ≡ not v → v ≡ may_forget b i
  blocker_found None e true p = sym (T_true _ ((blocker_exact b i).none.0 (sym e)))
  blocker_found None e false p = let z : ◌≡◌ {A = ℕ} 0 1 = cc in absurd (omega arith)
  blocker_found (Some x) e true p = let z : ◌≡◌ {A = ℕ} 0 1 = cc in absurd (omega arith)
  blocker_found (Some x) e false p = same_answer false (may_forget b i) (λ t. absurd t)
      (λ t. let q = e ∙ (blocker_exact b i).none.1 t in let z : ◌≡◌ {A = ℕ} 0 1 = cc in absurd (omega arith))

  pub forgettable : (r : Result (Option (ℕ × ℕ)) Refusal) → r ≡ blocker b i → (v : Bool) → ((o : Option (ℕ × ℕ)) → r ≡ Ok o → is_some o ≡ not v)
      → ((e : Refusal) → r ≡ Err e → v ≡ false) → v ≡ may_forget b i
  forgettable (Ok o) e v found refused = blocker_found o e v (found o refl)
  forgettable (Err r) e v found refused = refused r refl ∙ blocker_refused r e
