-- When an order is whole entries, each with its letter.
use Rattle.std.proofs.Common.{◌≡◌, ℕ, zero, suc, ◌*◌, ◌<◌, ◌≤◌, Bool, true, false, ◌&&◌, eqb, leb, List, [], ◌∷◌, ◌++◌, length, get_or, Some, None, Option, Bor, slice_get, sym, refl, ap, ◌∙◌, ⊎_elim, add-zero, ◌/◌, arith}
use Rattle.std.specs.Iterator.Runs.{Run, YieldsRun, AllItems, AnyItem, IsChunksExactRun}
use Rattle.std.proofs.lemmas.Nat.{le-div}
use Rattle.std.proofs.lemmas.Option.{slice_get_cases}
use Rattle.std.proofs.lemmas.Bool.{and_from, and_left, and_right, and_parts, cases_lt, eq-eqb, ne_eqb, le-leb, eqb-true, cond-true, cond-false}
use Rattle.model.specs.Lists.{each_of, below}
use Rattle.model.specs.Orders.{entry_count, entry_size, has_letter, most_entries, order_formed}
use Rattle.commands.specs.Writing.{entries_if_formed}

each_last : (f : ℕ → Bool) (xs : List ℕ) (y : ℕ) → each_of f (xs ++ (y ∷ [])) ≡ (each_of f xs && f y)
each_last f [] y = elim (f y) as (λ b. (b && true) ≡ b) [ true ↦ refl | false ↦ refl ]
each_last f (x ∷ xs) y = elim (f x) as (λ b. (b && each_of f (xs ++ (y ∷ []))) ≡ ((b && each_of f xs) && f y)) [ true ↦ each_last f xs y | false ↦ refl ]

each_below : (f : ℕ → Bool) (n : ℕ) → ((k : ℕ) → k < n → f k ≡ true) → each_of f (below n) ≡ true
each_below f zero h = refl
each_below f (suc n) h = each_last f (below n) n ∙ and_from _ _ (each_below f n (λ k l. h k (omega arith))) (h n (omega arith))

each_below_not : (f : ℕ → Bool) (n i : ℕ) → i < n → f i ≡ false → each_of f (below n) ≡ false
each_below_not f zero i l h = absurd (omega arith)
each_below_not f (suc n) i l h =
    each_last f (below n) n
    ∙ ⊎_elim (λ (m : i < n). and_left _ _ (each_below_not f n i m h)) (λ (m : n ≤ i). let e : i ≡ n = omega arith in and_right _ _ (ap f (sym e) ∙ h)) (cases_lt i n)

pub formed_whole : (w : ℕ) (bytes : List ℕ) → order_formed w bytes ≡ true → entry_count w bytes * entry_size w ≡ length bytes
formed_whole w bytes e = eqb-true _ _ (and_parts _ _ e).0

-- the loop over the entries, where a value is known to have v bytes

module _ (w v : ℕ) (q : v ≡ w) (bytes : List ℕ) where
  pub count_some : entry_count v bytes * entry_size v ≡ length bytes → entry_count v bytes ≤ most_entries → ((k : ℕ) → k < entry_count v bytes → get_or bytes (k * entry_size v) 0 ≡ 86)
      → Some (entry_count v bytes) ≡ entries_if_formed w bytes
  count_some h l f =
      let t : order_formed v bytes ≡ true = and_from _ _ (eq-eqb _ _ h) (and_from _ _ (le-leb _ _ l) (each_below (has_letter v bytes) _ (λ k m. eq-eqb _ _ (f k m)))) in
      sym (ap (λ (n : ℕ). entries_if_formed n bytes) (sym q) ∙ cond-true _ _ _ t)

  pub count_none : (i : ℕ) → i < entry_count v bytes → (get_or bytes (i * entry_size v) 0 ≡ 86 → ⊥) → None ≡ entries_if_formed w bytes
  count_none i l f =
      let t : order_formed v bytes ≡ false = and_right (eqb (entry_count v bytes * entry_size v) (length bytes)) _ (and_right (leb (entry_count v bytes) most_entries) _ (each_below_not (has_letter v bytes) _ i l (ne_eqb _ _ f))) in
      sym (ap (λ (n : ℕ). entries_if_formed n bytes) (sym q) ∙ cond-false _ _ _ t)

-- a run over the chunks of n bytes, of each of which a fact was found

module _ {S : Type 0} {steps : S → Option (Bor (List ℕ)) → S → Type 0} (p : Run steps) (n : ℕ) (xs : List ℕ) (above : 0 < n) (h : IsChunksExactRun p n xs) where
  first_byte : (k : ℕ) (x : Bor (List ℕ)) → p.at k ≡ Some x → get_or x.now 0 0 ≡ get_or xs (k * n) 0
  first_byte k x e = (rw e at (h.2 k)).2.2 0 0 above ∙ ap (λ (i : ℕ). get_or xs i 0) (add-zero (k * n))

  chunk_there : (k : ℕ) → k < p.len → (x : Bor (List ℕ)) × (p.at k ≡ Some x)
  unfolding YieldsRun
  chunk_there k l =
      ⊎_elim (λ (t : (x : Bor (List ℕ)) × (k < length p.items) × (slice_get p.items k ≡ Some x) × (get_or p.items k x ≡ x)). (t.0, p.gave.1 k ∙ t.2)) (λ (t : (length p.items ≤ k) × (slice_get p.items k ≡ None)). absurd (omega (arith, p.long, t.0))) (slice_get_cases p.items k).1

  pub each_lettered : (Q : Bor (List ℕ) → Type 0) → ((x : Bor (List ℕ)) → Q x → get_or x.now 0 0 ≡ 86) → p.whole ≡ true → AllItems p Q → (k : ℕ) → k < length xs / n → get_or xs (k * n) 0 ≡ 86
  each_lettered Q q w f k l =
      let t = chunk_there k (omega (arith, h.1 w)) in
      sym (first_byte k t.0 t.1) ∙ q t.0 (rw t.1 at (f k))

  pub one_letterless : (Q : Bor (List ℕ) → Type 0) → ((x : Bor (List ℕ)) → 0 < length x.now → Q x → get_or x.now 0 0 ≡ 86 → ⊥) → AnyItem p Q → (k : ℕ) × (k < length xs / n) × (get_or xs (k * n) 0 ≡ 86 → ⊥)
  one_letterless Q q f =
      let t = chunk_there f.0 f.1 in
      let l : length t.0.now ≡ n = (rw t.1 at (h.2 f.0)).0 in
      (f.0, omega (arith, le-div p.len (length xs) n above h.0), λ e. q t.0 (omega arith) (rw t.1 at f.2) (first_byte f.0 t.0 t.1 ∙ e))
