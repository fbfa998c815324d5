-- Members of lists, what a filter keeps, and lists of numbers.
use Rattle.std.proofs.Common.{◌≡◌, ℕ, zero, suc, ◌+◌, ◌<◌, ◌≤◌, Bool, T, eqb, List, [], ◌∷◌, ◌++◌, length, filter, sym, subst, inl, inr, arith, eqb→eq}
use lib.Dec.{eqb_refl}
use Rattle.std.proofs.lemmas.Bool.{cases_eq}
use Rattle.model.specs.Lists.{some_of, each_of, among, up_to, below}
use Rattle.model.proofs.Tests.{and_l, and_r, and_i, or_e, or_l, or_r, decided, eqb_of, some_map, some_left, some_last, some_cases, filter_yes, filter_no}

-- members of any list

pub data In {A : Type 0} (x : A) : List A → Type 0 where
  here : {ys : List A} → In x (x ∷ ys)
  there : {y : A} {ys : List A} → In x ys → In x (y ∷ ys)

module _ {A : Type 0} where
  pub some_member : (f : A → Bool) (xs : List A) → T (some_of f xs) → (x : A) × In x xs × T (f x)
  some_member f [] t = absurd t
  some_member f (y ∷ ys) t = elim (or_e (f y) (some_of f ys) t) [
    | inl p ↦ (y, here, p)
    | inr p ↦ let r = some_member f ys p in (r.0, there r.1, r.2)
  ]

  pub member_some : (f : A → Bool) {x : A} {xs : List A} → In x xs → T (f x) → T (some_of f xs)
  member_some f here t = or_l _ _ t
  member_some f (there i) t = or_r _ _ (member_some f i t)

  pub filter_member : (f : A → Bool) {x : A} (xs : List A) → In x (filter f xs) → In x xs × T (f x)
  filter_member f [] i = elim i [ ]
  filter_member f {x} (y ∷ ys) i = elim (decided (f y)) [
    | inl t ↦ first t (filter_member f ys) (rw (filter_yes f y ys t) at i)
    | inr n ↦ let r = filter_member f ys (rw (filter_no f y ys n) at i) in (there r.0, r.1)
  ]
    where
      first : {z : A} → T (f y) → (In z (filter f ys) → In z ys × T (f z)) → In z (y ∷ filter f ys) → In z (y ∷ ys) × T (f z)
      first t h here = (here, t)
      first t h (there j) = (there (h j).0, (h j).1)

  pub member_filter : (f : A → Bool) {x : A} {xs : List A} → In x xs → T (f x) → In x (filter f xs)
  member_filter f {x} (here {ys = ys}) t = rw (filter_yes f x ys t) here
  member_filter f {x} (there {y = y} {ys = ys} i) t = elim (decided (f y)) [
    | inl u ↦ rw (filter_yes f y ys u) (there (member_filter f i t))
    | inr n ↦ rw (filter_no f y ys n) (member_filter f i t)
  ]

  -- how long a filtered list is

  filter_le : (f : A → Bool) (xs : List A) → length (filter f xs) ≤ length xs
  filter_le f [] = omega arith
  filter_le f (y ∷ ys) = elim (decided (f y)) [
    | inl t ↦ rw (filter_yes f y ys t) (omega (arith, filter_le f ys))
    | inr n ↦ rw (filter_no f y ys n) (omega (arith, filter_le f ys))
  ]

  pub filter_lt : (f : A → Bool) {x : A} {xs : List A} → In x xs → (T (f x) → ⊥) → length (filter f xs) < length xs
  filter_lt f {x} (here {ys = ys}) n = rw (filter_no f x ys n) (omega (arith, filter_le f ys))
  filter_lt f (there {y = y} {ys = ys} i) n = elim (decided (f y)) [
    | inl t ↦ rw (filter_yes f y ys t) (omega (arith, filter_lt f i n))
    | inr m ↦ rw (filter_no f y ys m) (omega (arith, filter_lt f i n))
  ]

  pub filter_fewer : (f g : A → Bool) (xs : List A) → ((x : A) → In x xs → T (g x) → T (f x)) → length (filter g xs) ≤ length (filter f xs)
  filter_fewer f g [] h = omega arith
  filter_fewer f g (y ∷ ys) h = elim (decided (g y)) [
    | inl t ↦ rw (filter_yes g y ys t, filter_yes f y ys (h y here t)) (omega (arith, filter_fewer f g ys (λ x i. h x (there i))))
    | inr n ↦ rw (filter_no g y ys n) (elim (decided (f y)) [
      | inl t ↦ rw (filter_yes f y ys t) (omega (arith, filter_fewer f g ys (λ x i. h x (there i))))
      | inr m ↦ rw (filter_no f y ys m) (filter_fewer f g ys (λ x i. h x (there i)))
    ])
  ]

  pub filter_last : (f : A → Bool) (xs : List A) (y : A) → length (filter f (xs ++ (y ∷ []))) ≤ length (filter f xs) + 1
  filter_last f [] y = elim (decided (f y)) [ inl t ↦ rw (filter_yes f y [] t) (omega arith) | inr n ↦ rw (filter_no f y [] n) (omega arith) ]
  filter_last f (x ∷ xs) y = elim (decided (f x)) [
    | inl t ↦ rw (filter_yes f x (xs ++ (y ∷ [])) t, filter_yes f x xs t) (omega (arith, filter_last f xs y))
    | inr n ↦ rw (filter_no f x (xs ++ (y ∷ [])) n, filter_no f x xs n) (filter_last f xs y)
  ]

-- lists of numbers

pub some_i : (f : ℕ → Bool) (ns : List ℕ) (n : ℕ) → T (among n ns) → T (f n) → T (some_of f ns)
some_i f ns n s t = some_map (eqb n) f (λ m e. subst (λ x. T (f x)) (eqb→eq n m e) t) ns s

pub among_in : (n : ℕ) (ns : List ℕ) → T (among n ns) → In n ns
among_in n ns t = let r = some_member (eqb n) ns t in subst (λ (m : ℕ). In m ns) (sym (eqb→eq n r.0 r.2)) r.1

pub in_among : {n : ℕ} {ns : List ℕ} → In n ns → T (among n ns)
in_among {n} i = member_some (eqb n) i (eqb_refl n)

pub some_e : (f : ℕ → Bool) (ns : List ℕ) → T (some_of f ns) → (n : ℕ) × T (among n ns) × T (f n)
some_e f ns t = let r = some_member f ns t in (r.0, in_among r.1, r.2)

pub each_e : (f : ℕ → Bool) (ns : List ℕ) (n : ℕ) → T (each_of f ns) → T (among n ns) → T (f n)
each_e f [] n t s = absurd s
each_e f (m ∷ ms) n t s = elim (or_e (eqb n m) (among n ms) s) [
  | inl e ↦ subst (λ x. T (f x)) (sym (eqb→eq n m e)) (and_l (f m) (each_of f ms) t)
  | inr r ↦ each_e f ms n (and_r (f m) (each_of f ms) t) r
]

pub each_i : (f : ℕ → Bool) (ns : List ℕ) → ((n : ℕ) → T (among n ns) → T (f n)) → T (each_of f ns)
each_i f [] h = tt
each_i f (m ∷ ms) h = and_i (f m) (each_of f ms) (h m (or_l (eqb m m) (among m ms) (eqb_refl m))) (each_i f ms (λ n t. h n (or_r (eqb n m) (among n ms) t)))

pub filter_e : (f : ℕ → Bool) (ns : List ℕ) (n : ℕ) → T (among n (filter f ns)) → T (among n ns) × T (f n)
filter_e f ns n t = let r = filter_member f ns (among_in n (filter f ns) t) in (in_among r.0, r.1)

pub filter_i : (f : ℕ → Bool) (ns : List ℕ) (n : ℕ) → T (among n ns) → T (f n) → T (among n (filter f ns))
filter_i f ns n s t = in_among (member_filter f (among_in n ns s) t)

pub among_up_to : (l n : ℕ) → 1 ≤ n → n ≤ l → T (among n (up_to l))
among_up_to zero n a b = absurd (omega arith)
among_up_to (suc l) n a b = elim (cases_eq n (suc l)) [
  | inl e ↦ some_last (eqb n) (up_to l) (suc l) (eqb_of n (suc l) e)
  | inr d ↦ some_left (eqb n) (up_to l) (suc l ∷ []) (among_up_to l n a (omega arith))
]

pub among_below : (l n : ℕ) → n < l → T (among n (below l))
among_below zero n b = absurd (omega arith)
among_below (suc l) n b = elim (cases_eq n l) [
  | inl e ↦ some_last (eqb n) (below l) l (eqb_of n l e)
  | inr d ↦ some_left (eqb n) (below l) (l ∷ []) (among_below l n (omega arith))
]

pub below_e : (l n : ℕ) → T (among n (below l)) → n < l
below_e zero n t = absurd t
below_e (suc l) n t = elim (some_cases (eqb n) (below l) l t) [
  | inl p ↦ let h : n < l = below_e l n p in omega arith
  | inr p ↦ let h : n ≡ l = eqb→eq n l p in omega arith
]
