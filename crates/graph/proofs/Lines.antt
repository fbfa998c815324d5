-- A loop that changes the rows of a matrix one by one.
use Rattle.std.proofs.Common.{◌≡◌, ℕ, ◌+◌, ◌<◌, ◌≤◌, Bool, true, false, not, ◌&&◌, ◌||◌, eqb, List, length, get_or, set, sym, refl, ap, ◌∙◌, subst, inl, inr, arith, length-set}
use mathlib.Core.Bool.{or-false, and_comm}
use Rattle.std.proofs.lemmas.Bool.{cases_lt, cases_eq, eq-eqb, ne_eqb, and_left, and_right, or_from}
use Rattle.graph.specs.declared.place_set.PlaceSet.{PlaceSet}
use Rattle.graph.specs.Members.{has, Empty}
use Rattle.graph.specs.Drawn.{drawn}
use Rattle.graph.proofs.Arrows.{drawn_row, drawn_past, drawn_set_same, drawn_set_other}

-- the arrows that leave a place below i are those of F, and the others are as they were
pub record Done (F : ℕ → ℕ → Bool) (i : ℕ) (rows rows' : List PlaceSet) : Type 0 where
  pub long : length rows' ≡ 64
  pub below : (p q : ℕ) → p < i → drawn rows' p q ≡ F p q
  pub above : (p q : ℕ) → i ≤ p → drawn rows' p q ≡ drawn rows p q

module _ (F : ℕ → ℕ → Bool) (rows : List PlaceSet) where
  module _ (rows' : List PlaceSet) (i : ℕ) (d : Done F i rows rows') where
    -- past the rows F has no arrow
    pub done_all : 64 ≤ i → ((p q : ℕ) → 64 ≤ p → F p q ≡ false) → (p q : ℕ) → drawn rows' p q ≡ F p q
    done_all h f p q = elim (cases_lt p 64) [
      | inl l ↦ d.below p q (omega arith)
      | inr l ↦ drawn_past rows' p q (omega (arith, d.long)) ∙ sym (f p q l)
    ]

    -- the row of i is still as it was
    pub row_was : (q : ℕ) → has (get_or rows' i (record { mask = 0 })) q ≡ drawn rows i q
    row_was q = drawn_row rows' i q ∙ d.above i q (omega arith)

    -- the row of i becomes w
    pub done_set : (w : PlaceSet) → i < 64 → ((q : ℕ) → has w q ≡ F i q) → Done F (i + 1) rows (set rows' i w)
    done_set w h f = record {
      long = length-set rows' i w ∙ d.long;
      below = λ p q l. elim (cases_eq p i) [
        | inl e ↦ subst (λ n. drawn (set rows' i w) n q ≡ F n q) (sym e) (drawn_set_same rows' i w q (omega (arith, d.long)) ∙ f q)
        | inr n ↦ drawn_set_other rows' i p w q n ∙ d.below p q (omega arith)
      ];
      above = λ p q l. drawn_set_other rows' i p w q (λ e. omega arith) ∙ d.above p q (omega arith);
    }

-- ---- what each loop makes of the rows

-- an arrow to `to` from each place of a set
abbrev pub more : List PlaceSet → PlaceSet → ℕ → ℕ → ℕ → Bool
more rows s to p q = drawn rows p q || (eqb q to && has s p)

-- no arrow to k
abbrev pub less : List PlaceSet → ℕ → ℕ → ℕ → Bool
less rows k p q = drawn rows p q && not (eqb q k)

-- an arrow past k for each two that meet there
abbrev pub joint : List PlaceSet → ℕ → ℕ → ℕ → Bool
joint rows k p q = drawn rows p q || (drawn rows p k && drawn rows k q)

module _ (rows : List PlaceSet) (long : length rows ≡ 64) (p : ℕ) where
  gone : (q : ℕ) → 64 ≤ p → drawn rows p q ≡ false
  gone q h = drawn_past rows p q (omega arith)

  pub less_past : (k q : ℕ) → 64 ≤ p → less rows k p q ≡ false
  less_past k q h = and_left _ _ (gone q h)

  pub joint_past : (k q : ℕ) → 64 ≤ p → joint rows k p q ≡ false
  joint_past k q h = or_from _ _ (gone q h) (and_left _ _ (gone k h))

module _ (rows : List PlaceSet) (i q : ℕ) where
  pub joint_hit : (k : ℕ) → true ≡ drawn rows i k → (drawn rows i q || drawn rows k q) ≡ joint rows k i q
  joint_hit k y = ap (λ a. drawn rows i q || (a && drawn rows k q)) y

  pub joint_pass : (k : ℕ) → false ≡ drawn rows i k → drawn rows i q ≡ joint rows k i q
  joint_pass k n = sym (or-false _) ∙ ap (λ a. drawn rows i q || (a && drawn rows k q)) n

-- the arrow from n is drawn, and n is among the places still to come no more
pub more_next : (rows rows' : List PlaceSet) (s t : PlaceSet) (n to p q : ℕ) → drawn rows' p q ≡ (drawn rows p q || (eqb p n && eqb q to))
    → has s p ≡ (eqb p n || has t p) → more rows' t to p q ≡ more rows s to p q
more_next rows rows' s t n to p q d h =
    ap (λ b. b || (eqb q to && has t p)) d ∙ go (drawn rows p q) (eqb p n) (eqb q to) (has t p) ∙ sym (ap (λ b. drawn rows p q || (eqb q to && b)) h)
  where
    go : (d a b h : Bool) → ((d || (a && b)) || (b && h)) ≡ (d || (b && (a || h)))
    go true a b h = refl
    go false true true h = refl
    go false true false h = refl
    go false false b h = refl

-- no place is still to come
pub more_over : (rows : List PlaceSet) (s : PlaceSet) (to p q : ℕ) → Empty s → drawn rows p q ≡ more rows s to p q
more_over rows s to p q e = sym (or-false (drawn rows p q)) ∙ ap (λ a. drawn rows p q || a) (sym (and_right (eqb q to) (has s p) (e p)))

-- no arrow leads to k, and then none from it
pub cleared : (rows rows' : List PlaceSet) (k : ℕ) (s : PlaceSet) → k < length rows' → Empty s → ((p q : ℕ) → drawn rows' p q ≡ less rows k p q)
    → (p q : ℕ) → drawn (set rows' k s) p q ≡ (not (eqb p k) && (not (eqb q k) && drawn rows p q))
cleared rows rows' k s h none d p q = elim (cases_eq p k) [
  | inl e ↦ subst (λ n. drawn (set rows' k s) n q ≡ false) (sym e) (drawn_set_same rows' k s q h ∙ none q) ∙ sym (ap (λ b. not b && (not (eqb q k) && drawn rows p q)) (eq-eqb p k e))
  | inr n ↦
      drawn_set_other rows' k p s q n ∙ d p q ∙ and_comm (drawn rows p q) (not (eqb q k))
      ∙ sym (ap (λ b. not b && (not (eqb q k) && drawn rows p q)) (ne_eqb p k n))
]
