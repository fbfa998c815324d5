-- Where the conflicts have no circle, there is an order of the finished jobs that keeps them.
use Rattle.std.proofs.Common.{ℕ, zero, suc, ◌≤◌, Bool, not, T, eqb, List, [], ◌∷◌, length, filter, sym, subst, inl, inr, le_refl, arith, eqb→eq, T_not}
use lib.Dec.{eqb_refl, not_T}
use Rattle.model.specs.Lists.{some_of, map_list, Distinct}
use Rattle.model.specs.Conflicts.{Step, by, is_write, precedes, of_job, HasCircle}
use Rattle.model.specs.Serial.{InOrder, KeepsConflicts}
use Rattle.model.proofs.Walks.{Way, way_join, way_walk, Arrow}
use Rattle.model.proofs.Walks.Way.{last}
use Rattle.model.proofs.Tests.{and_l, and_r, or_e, or_l, or_r, decided, some_map, some_filter_i, some_filter_e}
use Rattle.model.proofs.Lists.{In, some_member, member_some, filter_member, member_filter, filter_lt, among_in, in_among}
use Rattle.model.proofs.Lists.In.{here, there}

module _ (arrow : ℕ → ℕ → Bool) where
  abbrev Reach : ℕ → ℕ → Type 0
  Reach p q = Way (Arrow arrow) (λ n. Unit {0}) p q

  -- if each of a list's members has one before it in the list, one reaches itself
  circle_in : (xs : List ℕ) (y : ℕ) → In y xs → ((n : ℕ) → In n xs → (p : ℕ) × In p xs × Reach p n) → (u : ℕ) × Reach u u
  circle_in [] y i h = elim i [ ]
  circle_in (x ∷ xs) y i h = go (h x here).0 (h x here).1 (h x here).2 (circle_in xs)
    where
      move : (p : ℕ) → In p xs → Reach p x → (n q : ℕ) → In q (x ∷ xs) → Reach q n → (r : ℕ) × In r xs × Reach r n
      move p j w n q here v = (p, j, way_join w tt v)
      move p j w n q (there k) v = (q, k, v)

      go : (p : ℕ) → In p (x ∷ xs) → Reach p x → ((y : ℕ) → In y xs → ((n : ℕ) → In n xs → (p : ℕ) × In p xs × Reach p n) → (u : ℕ) × Reach u u)
          → (u : ℕ) × Reach u u
      go p here w ih = (x, w)
      go p (there j) w ih = ih p j (λ n k. move p j w n (h n (there k)).0 (h n (there k)).1 (h n (there k)).2)

  first_member : ((u : ℕ) → Reach u u → ⊥) → (xs : List ℕ) (y : ℕ) → In y xs → (n : ℕ) × In n xs × ((m : ℕ) → In m xs → T (arrow m n) → ⊥)
  first_member none xs y i = elim (decided (some_of lone xs)) [
    | inl t ↦ let r = some_member lone xs t in (r.0, r.1, λ m j a. T_not _ r.2 (member_some (λ m. arrow m r.0) j a))
    | inr f ↦ let c = circle_in xs y i (λ n j. pre n (elim (decided (some_of (λ m. arrow m n) xs)) [ inl t ↦ t | inr g ↦ absurd (f (member_some lone j (not_T _ g))) ])) in absurd (none c.0 c.1)
  ]
    where
      lone : ℕ → Bool
      lone n = not (some_of (λ m. arrow m n) xs)

      pre : (n : ℕ) → T (some_of (λ m. arrow m n) xs) → (p : ℕ) × In p xs × Reach p n
      pre n t = let r = some_member (λ m. arrow m n) xs t in (r.0, r.1, last r.2)

module _ {V : Type 0} (steps : List (Step V)) where
  -- an order of a list's members, of at most so many
  record Ordered (xs order : List ℕ) : Type 0 where
    distinct : Distinct order
    complete : (n : ℕ) → In n xs → In n order
    only : (n : ℕ) → In n order → In n xs
    in_order : InOrder steps order

  -- a first one, then the others in order
  ordered_more : (n : ℕ) (xs order : List ℕ) → In n xs → ((m : ℕ) → In m xs → T (precedes steps m n) → ⊥) → Ordered (filter (λ m. not (eqb m n)) xs) order
      → Ordered xs (n ∷ order)
  ordered_more n xs order i least o = record {
    distinct = (λ t. T_not _ (out n (among_in n order t)).1 (eqb_refl n), o.distinct);
    complete = λ m j. elim (decided (eqb m n)) [
      | inl t ↦ subst (λ (z : ℕ). In z (n ∷ order)) (sym (eqb→eq m n t)) here
      | inr f ↦ there (o.complete m (member_filter _ j (not_T _ f)))
    ];
    only = back;
    in_order = (λ m t. least m (out m (among_in m order t)).0, o.in_order);
  }
    where
      out : (m : ℕ) → In m order → In m xs × T (not (eqb m n))
      out m j = filter_member (λ m. not (eqb m n)) xs (o.only m j)

      back : (m : ℕ) → In m (n ∷ order) → In m xs
      back m here = i
      back m (there j) = (out m j).0

  ordered : (HasCircle steps → ⊥) → (k : ℕ) (xs : List ℕ) → length xs ≤ k → (order : List ℕ) × Ordered xs order
  ordered none k [] le = ([], record { distinct = tt; complete = λ n i. i; only = λ n i. i; in_order = tt })
  ordered none zero (x ∷ xs) le = absurd (omega arith)
  ordered none (suc k) (x ∷ xs) le =
      let f = first_member (precedes steps) (λ u w. none (u, way_walk w)) (x ∷ xs) x here in
      let n = f.0 in
      let rest = λ (m : ℕ). not (eqb m n) in
      let r = ordered none k (filter rest (x ∷ xs)) (omega (arith, filter_lt rest f.1 (λ t. T_not _ t (eqb_refl n)))) in
      (n ∷ r.0, ordered_more n (x ∷ xs) r.0 f.1 f.2 r.1)

  finish_in : (n : ℕ) (ts : List (Step V)) → T (some_of (λ s. eqb (by s) n) ts) → In n (map_list by ts)
  finish_in n [] t = absurd t
  finish_in n (s ∷ ts) t = elim (or_e _ _ t) [
    | inl p ↦ subst (λ (z : ℕ). In z (by s ∷ map_list by ts)) (eqb→eq (by s) n p) here
    | inr p ↦ there (finish_in n ts p)
  ]

  in_finish : (n : ℕ) (ts : List (Step V)) → In n (map_list by ts) → T (some_of (λ s. eqb (by s) n) ts)
  in_finish n [] i = elim i [ ]
  in_finish n (s ∷ ts) i = elim (decided (eqb (by s) n)) [
    | inl p ↦ or_l _ _ p
    | inr f ↦ or_r _ _ (in_finish n ts (later i f))
  ]
    where
      later : {m : ℕ} → In m (by s ∷ map_list by ts) → (T (eqb (by s) m) → ⊥) → In m (map_list by ts)
      later here f = absurd (f (eqb_refl (by s)))
      later (there j) f = j

  -- without a circle there is an order that keeps the conflicts
  pub some_order : (HasCircle steps → ⊥) → (order : List ℕ) × KeepsConflicts steps order
  some_order none =
      let ts = filter is_write steps in
      let o = ordered none _ (map_list by ts) (le_refl _) in (
        o.0,
        record {
          distinct = o.1.distinct;
          complete = λ n t. in_among (o.1.complete n (finish_in n ts (wrote n t)));
          only = λ n t. some_filter_e (λ s. eqb (by s) n) is_write steps (in_finish n ts (o.1.only n (among_in n o.0 t)));
          in_order = o.1.in_order;
        },
      )
    where
      wrote : (n : ℕ) → T (some_of (of_job is_write n) steps) → T (some_of (λ s. eqb (by s) n) (filter is_write steps))
      wrote n t = some_map (of_job is_write n) (λ s. eqb (by s) n) (λ s. and_l (eqb (by s) n) (is_write s)) (filter is_write steps)
          (some_filter_i (of_job is_write n) is_write (λ s. and_r (eqb (by s) n) (is_write s)) steps t)
