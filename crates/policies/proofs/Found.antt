-- Tests over lists of numbers, as the library and the model say them.
use Rattle.std.proofs.Common.{◌≡◌, ℕ, zero, suc, ◌+◌, Bool, cond, ◌&&◌, ◌||◌, List, [], ◌∷◌, ◌++◌, Some, None, Option, sym, refl, ap, ◌∙◌, ap₂, arith, add-zero}
use mathlib.Core.Bool.{and_assoc}
use Rattle.std.proofs.Math.Bool.{and-true}
use Rattle.std.specs.List.{find, list_any, list_all, range_with_len}
use Rattle.std.specs.Option.{option_map}
use Rattle.model.specs.Lists.{first_of, some_of, each_of, below}

same_item : (r : Option ℕ) → r ≡ option_map (λ n. n) r
same_item None = refl
same_item (Some n) = refl

first_is : (test : ℕ → Bool) (ns : List ℕ) → find test ns ≡ first_of test ns
first_is test [] = refl
first_is test (n ∷ ns) = ap (λ o. cond (test n) (Some n) o) (first_is test ns)

pub found : (test : ℕ → Bool) (ns : List ℕ) (r : Option ℕ) → option_map (λ n. n) r ≡ find test ns → r ≡ first_of test ns
found test ns r e = same_item r ∙ e ∙ first_is test ns

pub any_is : (test : ℕ → Bool) (ns : List ℕ) → list_any test ns ≡ some_of test ns
any_is test [] = refl
any_is test (n ∷ ns) = ap (λ v. test n || v) (any_is test ns)

-- every number below another

each_more : (test : ℕ → Bool) (ns : List ℕ) (n : ℕ) → each_of test (ns ++ (n ∷ [])) ≡ (each_of test ns && test n)
each_more test [] n = and-true (test n)
each_more test (m ∷ ns) n = ap (λ v. test m && v) (each_more test ns n) ∙ sym (and_assoc (test m) (each_of test ns) (test n))

range_more : (test : ℕ → Bool) (a n : ℕ) → list_all test (range_with_len a (suc n)) ≡ (list_all test (range_with_len a n) && test (a + n))
range_more test a zero = rw add-zero (and-true (test a))
range_more test a (suc n) = ap (λ v. test a && v) (range_more test (a + 1) n) ∙ sym (and_assoc (test a) _ _) ∙ ap (λ (k : ℕ). (test a && list_all test (range_with_len (a + 1) n)) && test k) (omega arith)

pub all_is : (test : ℕ → Bool) (n : ℕ) → list_all test (range_with_len 0 n) ≡ each_of test (below n)
all_is test zero = refl
all_is test (suc n) = range_more test 0 n ∙ ap₂ (λ v (k : ℕ). v && test k) (all_is test n) (omega arith) ∙ sym (each_more test (below n) n)
