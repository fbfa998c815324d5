-- What the test says of a job that may be forgotten.
use Rattle.std.proofs.Common.{ℕ, Bool, not, ◌||◌, T, ◌⊎◌, inl, inr, T_not}
use lib.Dec.{not_T}
use Rattle.model.specs.Lists.{each_of, among, below}
use Rattle.model.specs.Book.{Book, is_finished, touched_by, active, tight_path}
use Rattle.model.specs.Forgetting.{has_stand_in, may_forget}
use Rattle.model.proofs.Tests.{and_l, and_r, and_i, or_e, or_l, or_r, decided}
use Rattle.model.proofs.Lists.{each_e, each_i}

module _ (b : Book) (n : ℕ) where
  abbrev at_setting : ℕ → ℕ → Bool
  at_setting j e = not (touched_by b n e) || has_stand_in b n j e

  abbrev at_job : ℕ → Bool
  at_job j = not (tight_path b j n) || each_of (at_setting j) (below b.settings)

  pub may_finished : T (may_forget b n) → T (is_finished b n)
  may_finished t = and_l (is_finished b n) (each_of at_job (active b)) t

  -- seen from each active job with a tight path to n, n has a stand-in at each setting that it touched
  abbrev EachStandIn : Type 0
  EachStandIn = (j : ℕ) → T (among j (active b)) → T (tight_path b j n) → (e : ℕ) → T (among e (below b.settings)) → T (touched_by b n e) → T (has_stand_in b n j e)

  pub may_forget_e : T (may_forget b n) → EachStandIn
  may_forget_e t j m reached e i u =
      elim (or_e (not (tight_path b j n)) (each_of (at_setting j) (below b.settings)) (each_e at_job (active b) j (and_r (is_finished b n) (each_of at_job (active b)) t) m)) [
        | inl d ↦ absurd (T_not (tight_path b j n) d reached)
        | inr s ↦ elim (or_e (not (touched_by b n e)) (has_stand_in b n j e) (each_e (at_setting j) (below b.settings) e s i)) [
          | inl d ↦ absurd (T_not (touched_by b n e) d u)
          | inr c ↦ c
        ]
      ]

  pub may_forget_i : T (is_finished b n) → EachStandIn → T (may_forget b n)
  may_forget_i fin h = and_i (is_finished b n) (each_of at_job (active b)) fin (each_i at_job (active b) (λ j m. job j m (decided (tight_path b j n))))
    where
      job : (j : ℕ) → T (among j (active b)) → T (tight_path b j n) ⊎ (T (tight_path b j n) → ⊥) → T (at_job j)
      job j m (inr d) = or_l (not (tight_path b j n)) (each_of (at_setting j) (below b.settings)) (not_T (tight_path b j n) d)
      job j m (inl t) = or_r (not (tight_path b j n)) (each_of (at_setting j) (below b.settings)) (each_i (at_setting j) (below b.settings) (λ e i. elim (decided (touched_by b n e)) [
        | inl u ↦ or_r (not (touched_by b n e)) (has_stand_in b n j e) (h j m t e i u)
        | inr d ↦ or_l (not (touched_by b n e)) (has_stand_in b n j e) (not_T (touched_by b n e) d)
      ]))
