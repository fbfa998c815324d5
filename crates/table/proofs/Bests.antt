-- The loop that finds the place of the least key in a set.
use Rattle.std.proofs.Common.{◌≡◌, ℕ, ◌≤◌, Bool, true, false, not, ◌&&◌, ◌||◌, T, ◌∷◌, eqb, sym, refl, ap, ◌∙◌, subst, inl, inr, arith}
use Rattle.std.proofs.lemmas.Bool.{cases_Bool, eqb-true}
use Rattle.graph.specs.declared.place_set.PlaceSet.{PlaceSet}
use Rattle.graph.specs.Members.{has, First, Empty, listed}
use Rattle.graph.proofs.Listing.{listed_more}
use Rattle.graph.proofs.Bools.{and_fst}
use Rattle.table.specs.Least.{Least}

-- n passes the test, as do the places that are left, and of those that pass and are not left n has the least key
pub record Best (f : ℕ → Bool) (key : ℕ → ℕ) (rest : ℕ → Bool) (n : ℕ) : Type 0 where
  pub passing : T (f n)
  pub within : (i : ℕ) → T (rest i) → T (f i)
  pub least : (i : ℕ) → T (f i) → rest i ≡ false → key n ≤ key i

-- what is in a set and not in it without its first place is that place
left_out : (s rest : PlaceSet) (n i : ℕ) → First s rest n → T (has s i) → has rest i ≡ false → i ≡ n
left_out s rest n i f t e = go (has s i) (eqb i n) t (sym (f.others i) ∙ e) (eqb-true i n)
  where
    go : (a b : Bool) → T a → (a && not b) ≡ false → (b ≡ true → i ≡ n) → i ≡ n
    go true true t e h = h refl
    go true false t e h = absurd (subst T e tt)
    go false b t e h = absurd t

still_in : (s rest : PlaceSet) (n i : ℕ) → First s rest n → T (has rest i) → T (has s i)
still_in s rest n i f t = and_fst (has s i) (not (eqb i n)) (subst T (f.others i) t)

-- a set and one place more
abbrev pub with_one : ℕ → PlaceSet → ℕ → Bool
with_one n s i = eqb i n || has s i

-- the first place and the others, which iterators hold, are the set
pub put_back : (s u t v : PlaceSet) (n : ℕ) → u ≡ s → listed u ≡ n ∷ listed t → v ≡ t → (i : ℕ) → with_one n v i ≡ has s i
put_back s u t v n a e b i = ap (λ r. with_one n r i) b ∙ sym (listed_more u t n i e) ∙ ap (λ r. has r i) a

module _ (f : ℕ → Bool) (key : ℕ → ℕ) (s rest : PlaceSet) where
  -- the next place, m, is taken out, and w is one of it and n that has the lesser key
  pub best_step : (n m w : ℕ) → Best f key (has s) n → First s rest m → T (f w) → key w ≤ key n → key w ≤ key m → Best f key (has rest) w
  best_step n m w b t p k l = record {
    passing = p;
    within = λ i h. b.within i (still_in s rest m i t h);
    least = λ i h o. elim (cases_Bool (has s i)) [
      | inl e ↦ let q = ap key (left_out s rest m i t (subst T (sym e) tt) o) in omega arith
      | inr e ↦ omega (arith, b.least i h e)
    ];
  }

-- none is left
pub best_end : (f g : ℕ → Bool) (key : ℕ → ℕ) (s : PlaceSet) (n : ℕ) → Best f key (has s) n → Empty s → ((i : ℕ) → f i ≡ g i) → Least g key n
best_end f g key s n b none e = record { passing = subst T (e n) b.passing; least = λ i h. b.least i (subst T (sym (e i)) h) (none i) }
