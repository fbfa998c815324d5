-- Tests over lists, and lists of numbers.
use Rattle.std.specs.Prelude.{ℕ, zero, suc, Bool, true, false, cond, ◌&&◌, ◌||◌, T, List, [], ◌∷◌, ◌++◌, Some, None, Option, nat_eq}

-- each member passes the test
abbrev pub each_of : {A : Type 0} → (A → Bool) → List A → Bool
each_of f [] = true
each_of f (x ∷ xs) = f x && each_of f xs

-- some member passes the test
abbrev pub some_of : {A : Type 0} → (A → Bool) → List A → Bool
some_of f [] = false
some_of f (x ∷ xs) = f x || some_of f xs

-- the first member that passes the test
abbrev pub first_of : {A : Type 0} → (A → Bool) → List A → Option A
first_of f [] = None
first_of f (x ∷ xs) = cond (f x) (Some x) (first_of f xs)

-- each member through a function
abbrev pub map_list : {A B : Type 0} → (A → B) → List A → List B
map_list f [] = []
map_list f (x ∷ xs) = f x ∷ map_list f xs

-- the number is a member
abbrev pub among : ℕ → List ℕ → Bool
among n ns = some_of (nat_eq n) ns

-- no number stands twice
abbrev pub Distinct : List ℕ → Type 0
Distinct [] = Unit {0}
Distinct (n ∷ ns) = (T (among n ns) → ⊥) × Distinct ns

-- the numbers from 0 to n - 1
abbrev pub below : ℕ → List ℕ
below zero = []
below (suc n) = below n ++ (n ∷ [])

-- the numbers from 1 to n
abbrev pub up_to : ℕ → List ℕ
up_to zero = []
up_to (suc n) = up_to n ++ (suc n ∷ [])
