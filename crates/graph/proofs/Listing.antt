-- The places of a set as a list.
use Rattle.std.proofs.Common.{◌≡◌, ℕ, zero, suc, ◌+◌, ◌<◌, ◌≤◌, Bool, true, false, cond, not, ◌&&◌, ◌||◌, T, List, [], ◌∷◌, eqb, length, get_or, drop, sym, refl, ap, ◌∙◌, subst, inl, inr, arith}
use Rattle.std.specs.List.{filter, list_any, range_with_len}
use Rattle.std.proofs.Math.Bool.{and-true}
use Rattle.std.proofs.lemmas.Bool.{cases_lt, cases_eq, cases_Bool, eq-eqb, ne_eqb, and_right}
use Rattle.std.specs.Iterator.{YieldsFirstBy}
use Rattle.std.specs.Prelude.{Option, Some, None}
use Rattle.graph.specs.declared.place.Place.{Place}
use Rattle.graph.specs.declared.place_set.PlaceSet.{PlaceSet}
use Rattle.graph.specs.Members.{has, First, Empty, Taken, listed}
use Rattle.graph.proofs.Membership.{has_small, has_past}

is_true : (b : Bool) → T b → b ≡ true
is_true true h = refl
is_true false h = absurd h

kept : (f : ℕ → Bool) (a m : ℕ) → f a ≡ true → filter f (range_with_len a (suc m)) ≡ a ∷ filter f (range_with_len (a + 1) m)
kept f a m e = ap (λ b. cond b (a ∷ filter f (range_with_len (a + 1) m)) (filter f (range_with_len (a + 1) m))) e

passed : (f : ℕ → Bool) (a m : ℕ) → f a ≡ false → filter f (range_with_len a (suc m)) ≡ filter f (range_with_len (a + 1) m)
passed f a m e = ap (λ b. cond b (a ∷ filter f (range_with_len (a + 1) m)) (filter f (range_with_len (a + 1) m))) e

-- two tests that agree from a on list the same from there
same_from : (f g : ℕ → Bool) (a m : ℕ) → ((k : ℕ) → a ≤ k → f k ≡ g k) → filter f (range_with_len a m) ≡ filter g (range_with_len a m)
same_from f g a zero h = refl
same_from f g a (suc m) h =
    ap (λ b. cond b (a ∷ filter f (range_with_len (a + 1) m)) (filter f (range_with_len (a + 1) m))) (h a (omega arith))
    ∙ ap (λ xs. cond (g a) (a ∷ xs) xs) (same_from f g (a + 1) m (λ k l. h k (omega arith)))

none_from : (f : ℕ → Bool) (a m : ℕ) → ((k : ℕ) → f k ≡ false) → filter f (range_with_len a m) ≡ []
none_from f a zero h = refl
none_from f a (suc m) h = passed f a m (h a) ∙ none_from f (a + 1) m h

first_from : (f g : ℕ → Bool) (n a m : ℕ) → f n ≡ true → ((k : ℕ) → k < n → f k ≡ false) → ((k : ℕ) → g k ≡ (f k && not (eqb k n)))
    → a ≤ n → n < a + m → filter f (range_with_len a m) ≡ n ∷ filter g (range_with_len a m)
first_from f g n a zero t l o b u = absurd (let z : ⊥ = omega arith in z)
first_from f g n a (suc m) t l o b u = elim (cases_lt a n) [
  | inl s ↦
      passed f a m (l a s) ∙ first_from f g n (a + 1) m t l o (omega arith) (omega arith)
      ∙ ap (λ xs. n ∷ xs) (sym (passed g a m (o a ∙ ap (λ b. b && not (eqb a n)) (l a s))))
  | inr s ↦
      let e : a ≡ n = omega arith in
      kept f a m (ap f e ∙ t) ∙ ap (λ k. k ∷ filter f (range_with_len (a + 1) m)) e
      ∙ ap (λ xs. n ∷ xs)
      (same_from f g (a + 1) m (λ k h. sym (o k ∙ ap (λ b. f k && not b) (ne_eqb k n (omega arith)) ∙ and-true (f k)))
      ∙ sym (passed g a m (o a ∙ ap (λ b. f a && not b) (eq-eqb a n e) ∙ and_right (f a) false refl)))
]

-- a set with no place lists none
pub listed_none : (s : PlaceSet) → Empty s → listed s ≡ []
listed_none s e = none_from (has s) 0 64 e

-- the first place is the head, and the rest of the set is the tail
pub listed_first : (s t : PlaceSet) (n : ℕ) → First s t n → listed s ≡ n ∷ listed t
listed_first s t n h =
    first_from (has s) (has t) n 0 64 (is_true _ h.member) h.least h.others (omega arith) (has_small s n h.member)

-- taking the first place out of a set takes the head off its list
pub taken_lists : (s t : PlaceSet) (r : Option Place) → Taken s t r → YieldsFirstBy (λ p. p.index) listed s r t
taken_lists s t None h = (listed_none s h.0, listed_none t h.1)
taken_lists s t (Some p) h = listed_first s t p.index h

-- whether a number is in a list
abbrev pub in_list : ℕ → List ℕ → Bool
in_list k xs = list_any (λ x. eqb k x) xs

-- a head that is another number, or not there, is passed over
head_off : (f : ℕ → Bool) (k a m : ℕ) → eqb k a ≡ false → in_list k (filter f (range_with_len a (suc m))) ≡ in_list k (filter f (range_with_len (a + 1) m))
head_off f k a m n = elim (cases_Bool (f a)) [
  | inl e ↦ ap (in_list k) (kept f a m e) ∙ ap (λ b. b || in_list k (filter f (range_with_len (a + 1) m))) n
  | inr e ↦ ap (in_list k) (passed f a m e)
]

below_all : (f : ℕ → Bool) (k a m : ℕ) → k < a → in_list k (filter f (range_with_len a m)) ≡ false
below_all f k a zero h = refl
below_all f k a (suc m) h = head_off f k a m (ne_eqb k a (omega arith)) ∙ below_all f k (a + 1) m (omega arith)

past_all : (f : ℕ → Bool) (k a m : ℕ) → a + m ≤ k → in_list k (filter f (range_with_len a m)) ≡ false
past_all f k a zero h = refl
past_all f k a (suc m) h = head_off f k a m (ne_eqb k a (omega arith)) ∙ past_all f k (a + 1) m (omega arith)

at_head : (f : ℕ → Bool) (a m : ℕ) → in_list a (filter f (range_with_len a (suc m))) ≡ f a
at_head f a m = elim (cases_Bool (f a)) [
  | inl e ↦ ap (in_list a) (kept f a m e) ∙ ap (λ b. b || in_list a (filter f (range_with_len (a + 1) m))) (eq-eqb a a refl) ∙ sym e
  | inr e ↦ ap (in_list a) (passed f a m e) ∙ below_all f a (a + 1) m (omega arith) ∙ sym e
]

in_range : (f : ℕ → Bool) (k a m : ℕ) → a ≤ k → k < a + m → in_list k (filter f (range_with_len a m)) ≡ f k
in_range f k a zero l u = absurd (let z : ⊥ = omega arith in z)
in_range f k a (suc m) l u = elim (cases_lt a k) [
  | inl s ↦ head_off f k a m (ne_eqb k a (omega arith)) ∙ in_range f k (a + 1) m (omega arith) (omega arith)
  | inr s ↦ let e : a ≡ k = omega arith in subst (λ n. in_list n (filter f (range_with_len a (suc m))) ≡ f n) e (at_head f a m)
]

-- the list of a set has its places
pub has_listed : (s : PlaceSet) (k : ℕ) → has s k ≡ in_list k (listed s)
has_listed s k = elim (cases_lt k 64) [
  | inl l ↦ sym (in_range (has s) k 0 64 (omega arith) (omega arith))
  | inr g ↦ has_past s k g ∙ sym (past_all (has s) k 0 64 (omega arith))
]

-- a set with a place less
pub listed_more : (s t : PlaceSet) (n k : ℕ) → listed s ≡ n ∷ listed t → has s k ≡ (eqb k n || has t k)
listed_more s t n k e = has_listed s k ∙ ap (in_list k) e ∙ ap (λ b. eqb k n || b) (sym (has_listed t k))

pub listed_over : (s : PlaceSet) → listed s ≡ [] → Empty s
listed_over s e k = has_listed s k ∙ ap (in_list k) e

-- what a listing that begins with n says of the test, and what follows n
record Begins (f : ℕ → Bool) (a m n : ℕ) (xs : List ℕ) : Type 0 where
  after : ℕ
  long : n + 1 + after ≡ a + m
  low : a ≤ n
  passing : f n ≡ true
  least : (k : ℕ) → a ≤ k → k < n → f k ≡ false
  rest : xs ≡ filter f (range_with_len (n + 1) after)

begins : (f : ℕ → Bool) (a m n : ℕ) (xs : List ℕ) → filter f (range_with_len a m) ≡ n ∷ xs → Begins f a m n xs
begins f a zero n xs e = let l = ap length e in absurd (let z : ⊥ = omega arith in z)
begins f a (suc m) n xs e = elim (cases_Bool (f a)) [
  | inl t ↦
      let both = sym (kept f a m t) ∙ e in
      let h : a ≡ n = ap (λ ys. get_or ys 0 0) both in
      record {
        after = m;
        long = omega arith;
        low = omega arith;
        passing = subst (λ k. f k ≡ true) h t;
        least = λ k l u. absurd (let z : ⊥ = omega arith in z);
        rest = sym (ap (drop 1) both) ∙ ap (λ k. filter f (range_with_len (k + 1) m)) h;
      }
  | inr o ↦
      let r = begins f (a + 1) m n xs (sym (passed f a m o) ∙ e) in
      record {
        after = r.after;
        long = omega (arith, r.long);
        low = omega (arith, r.low);
        passing = r.passing;
        least = λ k l u. elim (cases_eq k a) [ inl q ↦ ap f q ∙ o | inr d ↦ r.least k (omega arith) u ];
        rest = r.rest;
      }
]

-- the head of a set's list is its first place, where the tail is the list of another
pub listed_head : (s t : PlaceSet) (n : ℕ) → listed s ≡ n ∷ listed t → First s t n
listed_head s t n e =
    let r = begins (has s) 0 64 n (listed t) e in
    record {
      member = subst T (sym r.passing) tt;
      least = λ k l. r.least k (omega arith) l;
      others = λ k. has_listed t k ∙ ap (in_list k) r.rest ∙ elim (cases_lt n k) [
        | inl l ↦ behind r k l ∙ sym (ap (λ b. has s k && not b) (ne_eqb k n (omega arith)) ∙ and-true (has s k))
        | inr g ↦ below_all (has s) k (n + 1) r.after (omega arith) ∙ sym (elim (cases_lt k n) [
          | inl u ↦ ap (λ b. b && not (eqb k n)) (r.least k (omega arith) u)
          | inr u ↦ ap (λ b. has s k && not b) (eq-eqb k n (omega arith)) ∙ and_right (has s k) false refl
        ])
      ];
    }
  where
    behind : (r : Begins (has s) 0 64 n (listed t)) (k : ℕ) → n < k → in_list k (filter (has s) (range_with_len (n + 1) r.after)) ≡ has s k
    behind r k l = elim (cases_lt k 64) [
      | inl u ↦ in_range (has s) k (n + 1) r.after (omega arith) (omega (arith, r.long))
      | inr u ↦ past_all (has s) k (n + 1) r.after (omega (arith, r.long)) ∙ sym (has_past s k u)
    ]
