-- The first member of a list that passes a test; in an ascending list it is the smallest.
use Rattle.std.proofs.Common.{◌≡◌, ℕ, zero, suc, ◌<◌, ◌≤◌, Bool, true, false, cond, T, ◌⊎◌, List, [], ◌∷◌, ◌++◌, Some, None, filter, Option, refl, inl, inr, arith}
use Rattle.model.specs.Lists.{first_of, up_to, below}
use Rattle.model.proofs.Tests.{decided, true_T, false_T, filter_yes, filter_no}
use Rattle.model.proofs.Lists.{In, filter_member, in_among, below_e}
use Rattle.model.proofs.Lists.In.{here, there}

module _ {A : Type 0} where
  abbrev pub First : (A → Bool) → List A → Option A → Type 0
  First f xs None = (x : A) → In x xs → T (f x) → ⊥
  First f xs (Some x) = In x xs × T (f x)

  pub first_says : (f : A → Bool) (xs : List A) → First f xs (first_of f xs)
  first_says f [] = λ x i. elim i [ ]
  first_says f (y ∷ ys) = go (f y) refl (first_of f ys) (first_says f ys)
    where
      not_here : {z : A} → f y ≡ false → In z (y ∷ ys) → ((x : A) → In x ys → T (f x) → ⊥) → T (f z) → ⊥
      not_here e here h t = false_T (f y) e t
      not_here {z} e (there i) h t = h z i t

      go : (v : Bool) → f y ≡ v → (o : Option A) → First f ys o → First f (y ∷ ys) (cond v (Some y) o)
      go true e o h = (here, true_T (f y) e)
      go false e None h = λ x i. not_here e i h
      go false e (Some x) h = (there h.0, h.1)

  -- each member stands in the relation to all that follow it
  abbrev pub Ascending : (A → A → Type 0) → List A → Type 0
  Ascending R [] = Unit {0}
  Ascending R (x ∷ xs) = ((y : A) → In y xs → R x y) × Ascending R xs

  abbrev pub Least : (A → A → Type 0) → (A → Bool) → List A → Option A → Type 0
  Least R f xs None = Unit {0}
  Least R f xs (Some x) = (y : A) → In y xs → T (f y) → (x ≡ y) ⊎ R x y

  pub first_least : (R : A → A → Type 0) (f : A → Bool) (xs : List A) → Ascending R xs → Least R f xs (first_of f xs)
  first_least R f [] s = tt
  first_least R f (y ∷ ys) s = go (f y) refl (first_of f ys) (first_least R f ys s.1)
    where
      at_head : {z : A} → In z (y ∷ ys) → (y ≡ z) ⊎ R y z
      at_head here = inl refl
      at_head {z} (there i) = inr (s.0 z i)

      later : {z : A} (x : A) → f y ≡ false → ((w : A) → In w ys → T (f w) → (x ≡ w) ⊎ R x w) → In z (y ∷ ys) → T (f z) → (x ≡ z) ⊎ R x z
      later x e h here t = absurd (false_T (f y) e t)
      later {z} x e h (there i) t = h z i t

      go : (v : Bool) → f y ≡ v → (o : Option A) → Least R f ys o → Least R f (y ∷ ys) (cond v (Some y) o)
      go true e o h = λ z i t. at_head i
      go false e None h = tt
      go false e (Some x) h = λ z i t. later x e h i t

  -- lists joined

  pub in_append : {x : A} (xs ys : List A) → In x (xs ++ ys) → In x xs ⊎ In x ys
  in_append [] ys i = inr i
  in_append (z ∷ xs) ys here = inl here
  in_append (z ∷ xs) ys (there i) = elim (in_append xs ys i) [ inl j ↦ inl (there j) | inr j ↦ inr j ]

  pub in_left : {x : A} {xs : List A} (ys : List A) → In x xs → In x (xs ++ ys)
  in_left ys here = here
  in_left ys (there i) = there (in_left ys i)

  pub in_right : {x : A} (xs : List A) {ys : List A} → In x ys → In x (xs ++ ys)
  in_right [] i = i
  in_right (z ∷ xs) i = there (in_right xs i)

  pub ascending_append : (R : A → A → Type 0) (xs ys : List A) → Ascending R xs → Ascending R ys → ((x y : A) → In x xs → In y ys → R x y) → Ascending R (xs ++ ys)
  ascending_append R [] ys s t h = t
  ascending_append R (x ∷ xs) ys s t h =
      (λ y i. elim (in_append xs ys i) [ inl j ↦ s.0 y j | inr j ↦ h x y here j ], ascending_append R xs ys s.1 t (λ w y i j. h w y (there i) j))

  pub ascending_filter : (R : A → A → Type 0) (f : A → Bool) (xs : List A) → Ascending R xs → Ascending R (filter f xs)
  ascending_filter R f [] s = tt
  ascending_filter R f (x ∷ xs) s = elim (decided (f x)) [
    | inl t ↦ rw (filter_yes f x xs t) (λ y i. s.0 y (filter_member f xs i).0, ascending_filter R f xs s.1)
    | inr n ↦ rw (filter_no f x xs n) (ascending_filter R f xs s.1)
  ]

  in_one : {x y : A} → In x (y ∷ []) → x ≡ y
  in_one here = refl
  in_one (there i) = elim i [ ]

-- the numbers 1 to n, and those below n

pub up_to_le : (n m : ℕ) → In m (up_to n) → m ≤ n
up_to_le zero m i = elim i [ ]
up_to_le (suc n) m i = elim (in_append (up_to n) (suc n ∷ []) i) [
  | inl j ↦ let h : m ≤ n = up_to_le n m j in omega arith
  | inr j ↦ let h : m ≡ suc n = in_one j in omega arith
]

pub ascending_up_to : (n : ℕ) → Ascending ◌<◌ (up_to n)
ascending_up_to zero = tt
ascending_up_to (suc n) = ascending_append ◌<◌ (up_to n) (suc n ∷ []) (ascending_up_to n) (λ y i. elim i [ ], tt)
    (λ x y i j. let h : x ≤ n = up_to_le n x i in let k : y ≡ suc n = in_one j in omega arith)

pub ascending_below : (n : ℕ) → Ascending ◌<◌ (below n)
ascending_below zero = tt
ascending_below (suc n) = ascending_append ◌<◌ (below n) (n ∷ []) (ascending_below n) (λ y i. elim i [ ], tt)
    (λ x y i j. let h : x < n = below_e n x (in_among i) in let k : y ≡ n = in_one j in omega arith)
