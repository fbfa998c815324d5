-- Answers that are yes, joined and taken apart.
use Rattle.std.proofs.Common.{Bool, true, false, ◌&&◌, ◌||◌, T, ◌⊎◌, inl, inr}

pub and_fst : (a b : Bool) → T (a && b) → T a
and_fst true b h = tt
and_fst false b h = h

pub and_snd : (a b : Bool) → T (a && b) → T b
and_snd true b h = h
and_snd false b h = absurd h

pub and_both : (a b : Bool) → T a → T b → T (a && b)
and_both true b h k = k
and_both false b h k = h

pub or_either : (a b : Bool) → T (a || b) → T a ⊎ T b
or_either true b h = inl tt
or_either false b h = inr h

pub or_fst : (a b : Bool) → T a → T (a || b)
or_fst true b h = tt
or_fst false b h = absurd h

pub or_snd : (a b : Bool) → T b → T (a || b)
or_snd true b h = tt
or_snd false b h = h
