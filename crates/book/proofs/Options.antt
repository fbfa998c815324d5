-- Answers about an option by its two cases.
use Rattle.std.proofs.Common.{◌≡◌, Some, None, Ok, Err, Option, Result, ap, ◌∙◌, MatchOption, IsSomeAnd}
use Rattle.std.specs.Result.{result_ok}
use Rattle.std.proofs.lemmas.Option.{MatchOption-at_none, MatchOption-at_some}

-- what follows in each case follows
pub either_way : {A : Type 0} (o : Option A) {P N R : Type 0} {Q M : A → Type 0} → MatchOption o P Q → MatchOption o N M → (P → N → R) → ((x : A) → Q x → M x → R) → R
either_way None p n none some = none p n
either_way (Some x) q m none some = some x q m

-- there is a value, and it is this one
pub that_some : {A : Type 0} (o : Option A) (x : A) {Q : A → Type 0} → IsSomeAnd o Q → ((y : A) → Q y → y ≡ x) → o ≡ Some x
that_some None x q is = absurd q
that_some (Some y) x q is = ap Some (is y q)

-- what holds of an option, once `ok_or` and `?` have told its two cases apart
module _ {A E : Type 0} (o : Option A) (r : Result A E) (part : o ≡ result_ok r) where
  pub gave : (P : Type 0) (Q : A → Type 0) → MatchOption o P Q → (x : A) → r ≡ Ok x → Q x
  gave P Q m x is = MatchOption-at_some P Q x (part ∙ ap result_ok is) m

  pub lacked : (P : Type 0) (Q : A → Type 0) → MatchOption o P Q → {e : E} → r ≡ Err e → P
  lacked P Q m is = MatchOption-at_none P Q (part ∙ ap result_ok is) m
