-- Tests as types, and tests over lists.
use Rattle.std.proofs.Common.{◌≡◌, ℕ, Bool, true, false, not, ◌&&◌, ◌||◌, T, eqb, ◌⊎◌, List, [], ◌∷◌, ◌++◌, filter, sym, refl, subst, inl, inr, eqb→eq, T_not}
use lib.Dec.{not_T, eqb_refl}
use Rattle.model.specs.Lists.{some_of}

-- tests

pub and_l : (x y : Bool) → T (x && y) → T x
and_l true y t = tt
and_l false y t = t

pub and_r : (x y : Bool) → T (x && y) → T y
and_r true y t = t
and_r false y t = absurd t

pub and_i : (x y : Bool) → T x → T y → T (x && y)
and_i true y p q = q
and_i false y p q = p

pub or_e : (x y : Bool) → T (x || y) → T x ⊎ T y
or_e true y t = inl tt
or_e false y t = inr t

pub or_l : (x y : Bool) → T x → T (x || y)
or_l true y t = tt
or_l false y t = absurd t

pub or_r : (x y : Bool) → T y → T (x || y)
or_r true y t = tt
or_r false y t = t

pub decided : (x : Bool) → T x ⊎ (T x → ⊥)
decided true = inl tt
decided false = inr (λ t. t)

pub T_true : (x : Bool) → T x → x ≡ true
T_true true t = refl
T_true false t = absurd t

pub T_false : (x : Bool) → (T x → ⊥) → x ≡ false
T_false true f = absurd (f tt)
T_false false f = refl

pub true_T : (x : Bool) → x ≡ true → T x
true_T x e = subst T (sym e) tt

pub false_T : (x : Bool) → x ≡ false → T x → ⊥
false_T x e t = subst T e t

pub eqb_of : (m n : ℕ) → m ≡ n → T (eqb m n)
eqb_of m n e = subst (λ x. T (eqb m x)) e (eqb_refl m)

pub apart : (m n : ℕ) → (m ≡ n → ⊥) → T (not (eqb m n))
apart m n f = not_T (eqb m n) (λ t. f (eqb→eq m n t))

pub apart_e : (m n : ℕ) → T (not (eqb m n)) → m ≡ n → ⊥
apart_e m n t e = T_not (eqb m n) t (eqb_of m n e)

-- tests over any list

module _ {A : Type 0} where
  pub some_out : {Q : Type 0} (f : A → Bool) → ((x : A) → T (f x) → Q) → (xs : List A) → T (some_of f xs) → Q
  some_out f g [] t = absurd t
  some_out f g (x ∷ xs) t = elim (or_e (f x) (some_of f xs) t) [ inl s ↦ g x s | inr s ↦ some_out f g xs s ]

  pub some_map : (f g : A → Bool) → ((x : A) → T (f x) → T (g x)) → (xs : List A) → T (some_of f xs) → T (some_of g xs)
  some_map f g h [] t = t
  some_map f g h (x ∷ xs) t = elim (or_e (f x) (some_of f xs) t) [
    | inl s ↦ or_l (g x) (some_of g xs) (h x s)
    | inr s ↦ or_r (g x) (some_of g xs) (some_map f g h xs s)
  ]

  pub some_left : (f : A → Bool) (xs ys : List A) → T (some_of f xs) → T (some_of f (xs ++ ys))
  some_left f [] ys t = absurd t
  some_left f (x ∷ xs) ys t = elim (or_e (f x) (some_of f xs) t) [
    | inl s ↦ or_l (f x) (some_of f (xs ++ ys)) s
    | inr s ↦ or_r (f x) (some_of f (xs ++ ys)) (some_left f xs ys s)
  ]

  pub some_last : (f : A → Bool) (xs : List A) (y : A) → T (f y) → T (some_of f (xs ++ (y ∷ [])))
  some_last f [] y t = or_l (f y) false t
  some_last f (x ∷ xs) y t = or_r (f x) (some_of f (xs ++ (y ∷ []))) (some_last f xs y t)

  pub some_cases : (f : A → Bool) (xs : List A) (y : A) → T (some_of f (xs ++ (y ∷ []))) → T (some_of f xs) ⊎ T (f y)
  some_cases f [] y t = elim (or_e (f y) false t) [ inl s ↦ inr s | inr s ↦ inl s ]
  some_cases f (x ∷ xs) y t = elim (or_e (f x) (some_of f (xs ++ (y ∷ []))) t) [
    | inl s ↦ inl (or_l (f x) (some_of f xs) s)
    | inr s ↦ elim (some_cases f xs y s) [ inl r ↦ inl (or_r (f x) (some_of f xs) r) | inr r ↦ inr r ]
  ]

  -- the filtered list, at its head
  pub filter_yes : (f : A → Bool) (y : A) (ys : List A) → T (f y) → filter f (y ∷ ys) ≡ y ∷ filter f ys
  filter_yes f y ys t = rw (T_true (f y) t)

  pub filter_no : (f : A → Bool) (y : A) (ys : List A) → (T (f y) → ⊥) → filter f (y ∷ ys) ≡ filter f ys
  filter_no f y ys t = rw (T_false (f y) t)

  pub filter_filter : (f g : A → Bool) → ((x : A) → T (f x) → T (g x)) → (xs : List A) → filter f (filter g xs) ≡ filter f xs
  filter_filter f g i [] = refl
  filter_filter f g i (x ∷ xs) = elim (decided (g x)) [
    | inl y ↦ elim (decided (f x)) [
      | inl z ↦ rw (filter_yes g x xs y, filter_yes f x (filter g xs) z, filter_yes f x xs z, filter_filter f g i xs)
      | inr z ↦ rw (filter_yes g x xs y, filter_no f x (filter g xs) z, filter_no f x xs z, filter_filter f g i xs)
    ]
    | inr n ↦ rw (filter_no g x xs n, filter_no f x xs (λ t. n (i x t)), filter_filter f g i xs)
  ]

  pub some_filter_i : (f g : A → Bool) → ((x : A) → T (f x) → T (g x)) → (xs : List A) → T (some_of f xs) → T (some_of f (filter g xs))
  some_filter_i f g h [] t = t
  some_filter_i f g h (x ∷ xs) t = elim (decided (g x)) [
    | inl y ↦ rw (filter_yes g x xs y) (elim (or_e (f x) (some_of f xs) t) [
      | inl s ↦ or_l (f x) (some_of f (filter g xs)) s
      | inr s ↦ or_r (f x) (some_of f (filter g xs)) (some_filter_i f g h xs s)
    ])
    | inr n ↦ rw (filter_no g x xs n) (elim (or_e (f x) (some_of f xs) t) [
      | inl s ↦ absurd (n (h x s))
      | inr s ↦ some_filter_i f g h xs s
    ])
  ]

  pub some_filter_e : (f g : A → Bool) (xs : List A) → T (some_of f (filter g xs)) → T (some_of (λ x. f x && g x) xs)
  some_filter_e f g [] t = t
  some_filter_e f g (x ∷ xs) t = elim (decided (g x)) [
    | inl y ↦ elim (or_e (f x) (some_of f (filter g xs)) (rw (filter_yes g x xs y) at t)) [
      | inl s ↦ or_l (f x && g x) (some_of (λ x. f x && g x) xs) (and_i (f x) (g x) s y)
      | inr s ↦ or_r (f x && g x) (some_of (λ x. f x && g x) xs) (some_filter_e f g xs s)
    ]
    | inr n ↦ or_r (f x && g x) (some_of (λ x. f x && g x) xs) (some_filter_e f g xs (rw (filter_no g x xs n) at t))
  ]
