-- The blocker of a finished job is the smallest pair at which it lacks a stand-in.
use Rattle.std.proofs.Common.{◌≡◌, ℕ, ◌<◌, not, ◌&&◌, T, List, [], ◌∷◌, is_ok, Some, None, Ok, Err, Option, Result, sym, refl, ap, ◌∙◌, subst, inl, inr, T_not}
use lib.Dec.{not_T}
use Rattle.model.specs.declared.refusals.Refusal.{Refusal}
use Rattle.model.specs.declared.refusals.Refusal.TheVariants.{NotFinished}
use Rattle.model.specs.Lists.{first_of, up_to, below, map_list}
use Rattle.model.specs.Book.{Book, is_active, is_finished, touched_by, active, tight_path}
use Rattle.model.specs.Forgetting.{has_stand_in, may_forget}
use Rattle.model.specs.Blocker.{lacks, pairs, blocker, Lacking, Smaller, BlockerExact}
use Rattle.model.proofs.MayForget.{may_finished, may_forget_e, may_forget_i}
use Rattle.model.proofs.Tests.{and_l, and_r, and_i, decided, T_true, T_false}
use Rattle.model.proofs.Lists.{In, among_in, in_among, among_below, below_e}
use Rattle.model.proofs.Lists.In.{here, there}
use Rattle.model.proofs.First.{First, first_says, Ascending, Least, first_least, in_append, in_left, in_right, ascending_append, ascending_filter, ascending_up_to, ascending_below}

-- the list of pairs

abbrev SmallerPair : ℕ × ℕ → ℕ × ℕ → Type 0
SmallerPair p q = Smaller p.0 p.1 q.0 q.1

with_e : {p : ℕ × ℕ} (x : ℕ) (ys : List ℕ) → In p (map_list (λ (y : ℕ). (x, y)) ys) → (p.0 ≡ x) × In p.1 ys
with_e x [] i = elim i [ ]
with_e x (y ∷ ys) here = (refl, here)
with_e x (y ∷ ys) (there i) = let r = with_e x ys i in (r.0, there r.1)

with_i : {y : ℕ} (x : ℕ) {ys : List ℕ} → In y ys → In {A = ℕ × ℕ} (x, y) (map_list (λ (z : ℕ). (x, z)) ys)
with_i x here = here
with_i x (there i) = there (with_i x i)

pairs_e : {p : ℕ × ℕ} (xs ys : List ℕ) → In p (pairs xs ys) → In p.0 xs × In p.1 ys
pairs_e [] ys i = elim i [ ]
pairs_e (x ∷ xs) ys i = elim (in_append (map_list (λ (y : ℕ). (x, y)) ys) (pairs xs ys) i) [
  | inl j ↦ let r = with_e x ys j in (subst (λ (z : ℕ). In z (x ∷ xs)) (sym r.0) here, r.1)
  | inr j ↦ let r = pairs_e xs ys j in (there r.0, r.1)
]

pairs_i : {x y : ℕ} {xs : List ℕ} (ys : List ℕ) → In x xs → In y ys → In {A = ℕ × ℕ} (x, y) (pairs xs ys)
pairs_i {x} ys (here {ys = xs}) j = in_left (pairs xs ys) (with_i x j)
pairs_i ys (there {y = z} i) j = in_right (map_list (λ (y : ℕ). (z, y)) ys) (pairs_i ys i j)

ascending_with : (x : ℕ) (ys : List ℕ) → Ascending ◌<◌ ys → Ascending SmallerPair (map_list (λ (y : ℕ). (x, y)) ys)
ascending_with x [] s = tt
ascending_with x (y ∷ ys) s = (λ p i. let r = with_e x ys i in inr (sym r.0, s.0 p.1 r.1), ascending_with x ys s.1)

ascending_pairs : (xs ys : List ℕ) → Ascending ◌<◌ xs → Ascending ◌<◌ ys → Ascending SmallerPair (pairs xs ys)
ascending_pairs [] ys s t = tt
ascending_pairs (x ∷ xs) ys s t = ascending_append SmallerPair (map_list (λ (y : ℕ). (x, y)) ys) (pairs xs ys) (ascending_with x ys t) (ascending_pairs xs ys s.1 t)
    (λ p q i j. inl (subst (λ (z : ℕ). z < q.0) (sym (with_e x ys i).0) (s.0 q.0 (pairs_e xs ys j).0)))

-- the answer

abbrev ok_or : Option (ℕ × ℕ) → Result (Option (ℕ × ℕ)) Refusal → Option (ℕ × ℕ)
ok_or d (Ok o) = o
ok_or d (Err r) = d

module _ (b : Book) (i : ℕ) where
  abbrev all_pairs : List (ℕ × ℕ)
  all_pairs = pairs (active b) (below b.settings)

  abbrev found : Option (ℕ × ℕ)
  found = first_of (lacks b i) all_pairs

  unfinished : (T (is_finished b i) → ⊥) → blocker b i ≡ Err NotFinished
  unfinished n = rw (T_false (is_finished b i) n)

  finished_answer : T (is_finished b i) → blocker b i ≡ Ok found
  finished_answer t = rw (T_true (is_finished b i) t)

  answered : (o : Option (ℕ × ℕ)) → blocker b i ≡ Ok o → T (is_finished b i) × (found ≡ o)
  answered o p = elim (decided (is_finished b i)) [
    | inl t ↦ (t, ap (ok_or o) (sym (finished_answer t) ∙ p))
    | inr n ↦ absurd (subst (λ r. T (is_ok r)) (sym p ∙ unfinished n) tt)
  ]

  -- a job that lacks a stand-in may not be forgotten
  in_the_way : (j e : ℕ) → Lacking b i j e → T (may_forget b i) → ⊥
  in_the_way j e w t =
      let reached : T (tight_path b j i) = and_l (tight_path b j i) (touched_by b i e && not (has_stand_in b i j e)) w.2 in
      let rest : T (touched_by b i e && not (has_stand_in b i j e)) = and_r (tight_path b j i) (touched_by b i e && not (has_stand_in b i j e)) w.2 in
      T_not (has_stand_in b i j e) (and_r (touched_by b i e) (not (has_stand_in b i j e)) rest)
      (may_forget_e b i t j w.0 reached e (among_below b.settings e w.1) (and_l (touched_by b i e) (not (has_stand_in b i j e)) rest))

  none_lacking : T (is_finished b i) → ((j e : ℕ) → Lacking b i j e → ⊥) → T (may_forget b i)
  none_lacking fin none = may_forget_i b i fin (λ j m r e k t. elim (decided (has_stand_in b i j e)) [
    | inl c ↦ c
    | inr c ↦ absurd (none j e (m, below_e b.settings e k, and_i (tight_path b j i) (touched_by b i e && not (has_stand_in b i j e)) r (and_i (touched_by b i e) (not (has_stand_in b i j e)) t (not_T (has_stand_in b i j e) c))))
  ])

  listed_pair : (j e : ℕ) → Lacking b i j e → In {A = ℕ × ℕ} (j, e) all_pairs
  listed_pair j e w = pairs_i (below b.settings) (among_in j (active b) w.0) (among_in e (below b.settings) (among_below b.settings e w.1))

  pair_lacks : (j e : ℕ) → In {A = ℕ × ℕ} (j, e) all_pairs → T (lacks b i (j, e)) → Lacking b i j e
  pair_lacks j e m t = let r = pairs_e (active b) (below b.settings) m in (in_among r.0, below_e b.settings e (in_among r.1), t)

  -- a finished job that may not be forgotten lacks one
  pub some_lacking : T (is_finished b i) → (T (may_forget b i) → ⊥) → (j : ℕ) × (e : ℕ) × Lacking b i j e
  some_lacking fin kept = go found (first_says (lacks b i) all_pairs)
    where
      go : (o : Option (ℕ × ℕ)) → First (lacks b i) all_pairs o → (j : ℕ) × (e : ℕ) × Lacking b i j e
      go None h = absurd (kept (none_lacking fin (λ j e w. h (j, e) (listed_pair j e w) w.2)))
      go (Some p) h = (p.0, p.1, pair_lacks p.0 p.1 h.0 h.1)

  pub blocker_exact : BlockerExact b i
  blocker_exact = record {
    refused = (λ p t. absurd (subst (λ r. T (is_ok r)) (sym (finished_answer t) ∙ p) tt), unfinished);
    none = (
      λ p. let r = answered None p in none_lacking r.0 (λ j e w. subst (First (lacks b i) all_pairs) r.1 (first_says (lacks b i) all_pairs) (j, e) (listed_pair j e w) w.2),
      λ t. finished_answer (may_finished b i t) ∙ ap (λ (o : Option (ℕ × ℕ)). Ok o) (none t found (first_says (lacks b i) all_pairs)),
    );
    some_lacks = λ j e p. let r = subst (First (lacks b i) all_pairs) (answered (Some (j, e)) p).1 (first_says (lacks b i) all_pairs) in pair_lacks j e r.0 r.1;
    some_smallest = λ j e p j' e' w.
        let r = subst (Least SmallerPair (lacks b i) all_pairs) (answered (Some (j, e)) p).1 (first_least SmallerPair (lacks b i) all_pairs sorted) in
        elim (r (j', e') (listed_pair j' e' w) w.2) [ inl q ↦ inl (ap (λ (x : ℕ × ℕ). x.0) q, ap (λ (x : ℕ × ℕ). x.1) q) | inr q ↦ inr q ];
  }
    where
      none : T (may_forget b i) → (o : Option (ℕ × ℕ)) → First (lacks b i) all_pairs o → o ≡ None
      none t None h = refl
      none t (Some p) h = absurd (in_the_way p.0 p.1 (pair_lacks p.0 p.1 h.0 h.1) t)

      sorted : Ascending SmallerPair all_pairs
      sorted = ascending_pairs (active b) (below b.settings) (ascending_filter ◌<◌ (is_active b) (up_to b.last) (ascending_up_to b.last)) (ascending_below b.settings)
