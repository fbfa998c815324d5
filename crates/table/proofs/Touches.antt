-- Which jobs touched some setting of a set.
use Rattle.std.proofs.Common.{◌≡◌, ℕ, zero, suc, ◌<◌, Bool, true, false, ◌&&◌, T, Some, None, Option, sym, refl, subst, inl, inr, ⊎_elim, arith}
use Rattle.std.proofs.lemmas.Bool.{cases_eq}
use Rattle.graph.specs.Members.{Shared}
use Rattle.graph.proofs.Bools.{and_fst, and_snd, and_both, or_either, or_fst, or_snd}
use Rattle.graph.proofs.Membership.{has_small}
use Rattle.table.specs.declared.jobs.Job.{Job}
use Rattle.table.specs.declared.settings.SettingSet.{SettingSet}
use Rattle.table.specs.Slots.{has_setting, passes}
use Rattle.table.specs.Touching.{touched, some_below, touched_any, Touched}

-- answers that are yes together are the same
pub same_answer : (a b : Bool) → (T a → T b) → (T b → T a) → a ≡ b
same_answer true true f g = refl
same_answer true false f g = absurd (f tt)
same_answer false true f g = absurd (g tt)
same_answer false false f g = refl

pub some_found : (f : ℕ → Bool) (n : ℕ) → T (some_below f n) → (k : ℕ) × T (f k)
unfolding some_below
some_found f zero t = absurd t
some_found f (suc n) t = ⊎_elim (λ h. (n, h)) (λ h. some_found f n h) (or_either (f n) (some_below f n) t)

pub some_told : (f : ℕ → Bool) (n k : ℕ) → k < n → T (f k) → T (some_below f n)
unfolding some_below
some_told f zero k l t = absurd (let z : ⊥ = omega arith in z)
some_told f (suc n) k l t = elim (cases_eq k n) [
  | inl e ↦ or_fst (f n) (some_below f n) (subst (λ m. T (f m)) e t)
  | inr d ↦ or_snd (f n) (some_below f n) (some_told f n k (omega arith) t)
]

module _ (s : SettingSet) (j : Job) where
  found : T (touched_any s j) → (e : ℕ) × T (has_setting s e) × T (touched e j)
  found t =
      let z = some_found (λ e. has_setting s e && touched e j) 64 t in
      (z.0, and_fst (has_setting s z.0) (touched z.0 j) z.1, and_snd (has_setting s z.0) (touched z.0 j) z.1)

  told : (e : ℕ) → T (has_setting s e) → T (touched e j) → T (touched_any s j)
  told e h t = some_told (λ d. has_setting s d && touched d j) 64 e (has_small s.members e h) (and_both (has_setting s e) (touched e j) h t)

  -- a set that has what a job touched shares a setting with another exactly when the job touched some of that
  pub shared_any : (u : SettingSet) (r : Bool) → ((e : ℕ) → has_setting u e ≡ touched e j) → Shared s.members u.members r → r ≡ touched_any s j
  shared_any u r e sh =
      same_answer r (touched_any s j)
      (λ t. let z = sh.some t in told z.0 z.1 (subst T (e z.0) z.2))
      (λ t. let z = found t in sh.told z.0 z.1 (subst T (sym (e z.0)) z.2))

pub touched_is : (s : SettingSet) (o : Option Job) → Touched s o (passes (touched_any s) o)
touched_is s None = record { some = λ t. absurd t; told = λ e h t. t }
touched_is s (Some j) = record { some = found s j; told = told s j }
