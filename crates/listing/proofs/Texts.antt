-- Steps of the texts of orders.
use Rattle.std.proofs.Common.{◌≡◌, ℕ, suc, ◌+◌, ◌-◌, ◌*◌, List, [], ◌∷◌, ◌++◌, length, get_or, take, drop, codes, decimal, sym, ap, ◌∙◌, arith}
use Rattle.std.proofs.lemmas.List.{drop-drop, get_or-drop}
use Rattle.listing.specs.Lines.{between, value_words, entries_words}

-- what a chunk of four bytes has of the order
pub entry_at : (order chunk behind : List ℕ) (i : ℕ) → drop (i * 4) order ≡ chunk ++ behind → length chunk ≡ 4
    → (get_or chunk 1 0 ≡ get_or order (i * 4 + 1) 0) × (take (length chunk - 2) (drop 2 chunk) ≡ take 2 (drop (i * 4 + 2) order)) × (behind ≡ drop ((i + 1) * 4) order)
entry_at order (a ∷ b ∷ c ∷ d ∷ []) behind i e h =
    let four : (i + 1) * 4 ≡ i * 4 + 4 = omega arith in (
      sym (ap (λ (l : List ℕ). get_or l 1 0) e) ∙ get_or-drop (i * 4) order 1 0,
      ap (λ (l : List ℕ). take 2 (drop 2 l)) (sym e) ∙ ap (take 2) (drop-drop 2 (i * 4) order),
      ap (drop 4) (sym e) ∙ drop-drop 4 (i * 4) order ∙ ap (λ (n : ℕ). drop n order) (sym four),
    )
entry_at order [] behind i e h = absurd (omega arith)
entry_at order (a ∷ []) behind i e h = absurd (omega arith)
entry_at order (a ∷ b ∷ []) behind i e h = absurd (omega arith)
entry_at order (a ∷ b ∷ c ∷ []) behind i e h = absurd (omega arith)
entry_at order (a ∷ b ∷ c ∷ d ∷ x ∷ xs) behind i e h = absurd (omega arith)

-- one entry more
pub entries_more : (order text more before value : List ℕ) (setting i : ℕ) → text ≡ entries_words order i → before ≡ between i
    → value ≡ value_words (take 2 (drop (i * 4 + 2) order)) → setting ≡ get_or order (i * 4 + 1) 0
    → more ≡ before ++ (codes "setting " ++ (decimal setting ++ (codes " = " ++ value)))
    → text ++ more ≡ entries_words order (i + 1)
entries_more order text more before value setting i p q r t s =
    let z : i + 1 ≡ suc i = omega arith in
    rw (s, p, q, r, t, z)
