-- The blocker of a finished job: why it may not be forgotten.
use Rattle.std.specs.Prelude.{◌≡◌, ℕ, ◌<◌, Bool, cond, not, ◌&&◌, T, ◌⊎◌, ◌↔◌, List, [], ◌∷◌, ◌++◌, Some, None, Ok, Err, Option, Result}
use Rattle.model.specs.declared.refusals.Refusal.{Refusal}
use Rattle.model.specs.declared.refusals.Refusal.TheVariants.{NotFinished}
use Rattle.model.specs.Lists.{first_of, among, below, map_list}
use Rattle.model.specs.Book.{Book, is_finished, touched_by, active, tight_path}
use Rattle.model.specs.Forgetting.{has_stand_in, may_forget}

-- of a pair of a job j and a setting e: a tight path leads from j to i, i touched e, and i has no stand-in there
abbrev pub lacks : Book → ℕ → ℕ × ℕ → Bool
lacks b i pair = tight_path b pair.0 i && (touched_by b i pair.1 && not (has_stand_in b i pair.0 pair.1))

-- all pairs of a member of one list and a member of another, in the order of the first, then of the second
abbrev pub pairs : List ℕ → List ℕ → List (ℕ × ℕ)
pairs [] ys = []
pairs (x ∷ xs) ys = map_list (λ (y : ℕ). (x, y)) ys ++ pairs xs ys

-- the first pair of an active job and a setting at which a finished job lacks a stand-in
abbrev pub blocker : Book → ℕ → Result (Option (ℕ × ℕ)) Refusal
blocker b i = cond (is_finished b i) (Ok (first_of (lacks b i) (pairs (active b) (below b.settings)))) (Err NotFinished)

-- j is an active job, e a setting, and i lacks a stand-in there
abbrev pub Lacking : Book → ℕ → ℕ → ℕ → Type 0
Lacking b i j e = T (among j (active b)) × (e < b.settings) × T (lacks b i (j, e))

-- one pair is smaller than another: by its job, then by its setting
abbrev pub Smaller : ℕ → ℕ → ℕ → ℕ → Type 0
Smaller j e j' e' = (j < j') ⊎ ((j ≡ j') × (e < e'))

-- none exactly when the job may be forgotten; else the smallest pair at which it lacks a stand-in
pub record BlockerExact (b : Book) (i : ℕ) : Type 0 where
  pub refused : (blocker b i ≡ Err NotFinished) ↔ (T (is_finished b i) → ⊥)
  pub none : (blocker b i ≡ Ok None) ↔ T (may_forget b i)
  pub some_lacks : (j e : ℕ) → blocker b i ≡ Ok (Some (j, e)) → Lacking b i j e
  pub some_smallest : (j e : ℕ) → blocker b i ≡ Ok (Some (j, e))
      → (j' e' : ℕ) → Lacking b i j' e' → ((j ≡ j') × (e ≡ e')) ⊎ Smaller j e j' e'

-- for every book and every number
abbrev pub EveryBlockerIsExact : Type 0
EveryBlockerIsExact = (b : Book) (i : ℕ) → BlockerExact b i
