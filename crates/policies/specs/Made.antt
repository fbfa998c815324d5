-- What the policies made of others do, by those of the model over the counts that their fields hold.
use Rattle.model.specs.Policies.{Policy, pile, Spacing, spaced}
use Rattle.policies.specs.declared.piles.Pile.{Pile}
use Rattle.policies.specs.declared.spaced.Spaced.{Spaced}

module _ {S R : Type 0} where
  -- the two counts of a pile
  abbrev pub counts_of : Pile S R → S × R
  counts_of s = (s.first, s.second)

  abbrev pub pile_does : Policy S → Policy R → Policy (Pile S R)
  pile_does p q = record {
    answer = λ s b. (pile p q).answer (counts_of s) b;
    next = λ s b. record { first = ((pile p q).next (counts_of s) b).0; second = ((pile p q).next (counts_of s) b).1 };
    thorough = λ s. (pile p q).thorough (counts_of s);
  }

module _ {S : Type 0} where
  -- the count of a spaced policy
  abbrev pub spacing_of : Spaced S → Spacing S
  spacing_of s = record { every = s.every; kept = s.kept; under = s.under }

  abbrev pub as_struct : Spacing S → Spaced S
  as_struct c = record { every = c.every; kept = c.kept; under = c.under }

  abbrev pub spaced_does : Policy S → Policy (Spaced S)
  spaced_does p = record {
    answer = λ s b. (spaced p).answer (spacing_of s) b;
    next = λ s b. as_struct ((spaced p).next (spacing_of s) b);
    thorough = λ s. (spaced p).thorough (spacing_of s);
  }
