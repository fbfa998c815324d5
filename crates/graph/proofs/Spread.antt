-- What the search keeps.
use Rattle.std.proofs.Common.{◌≡◌, ℕ, ◌<◌, Bool, true, false, not, ◌&&◌, ◌||◌, T, eqb, ◌⊎◌, sym, ap, ◌∙◌, subst, ap₂, inl, inr, ⊎_elim, eqb→eq}
use lib.Dec.{eqb_refl}
use Rattle.graph.specs.Walk.{Walk, one, anywhere}
use Rattle.graph.specs.Counted.{count}
use Rattle.graph.proofs.Counting.{count_less}
use Rattle.graph.proofs.Bools.{or_fst}
use Rattle.graph.proofs.Walks.{append, kept_in}

-- from a place whose arrows lead to the places of `start` a walk leads to each place seen, and each arrow that leaves
-- the places seen starts at one that is yet to do
pub record Spread (arrow : ℕ → ℕ → Bool) (start seen todo : ℕ → Bool) : Type 0 where
  pub sound : (p : ℕ) → ((q : ℕ) → start q ≡ arrow p q) → (q : ℕ) → T (seen q) → Walk arrow anywhere p q
  pub first : (q : ℕ) → T (start q) → T (seen q)
  pub due : (q : ℕ) → T (todo q) → T (seen q)
  pub closed : (p q : ℕ) → T (seen p) → (T (todo p) → ⊥) → T (arrow p q) → T (seen q)

-- how many places are yet to see or to do
abbrev pub ahead : (ℕ → Bool) → (ℕ → Bool) → ℕ
ahead seen todo = count (λ k. todo k || not (seen k)) 64

-- ---- one place: whether it is seen (s), was to do (n), is the one taken (e), and has an arrow from that (r)

fresh_or : (s r : Bool) → T r → T (s || (r && not s))
fresh_or true r h = tt
fresh_or false true h = tt
fresh_or false false h = h

or_was : (s r : Bool) → T (s || (r && not s)) → T s ⊎ T r
or_was true r h = inl tt
or_was false true h = inr tt
or_was false false h = absurd h

due_was : (n e s r : Bool) → (T n → T s) → T ((n && not e) || (r && not s)) → T (s || (r && not s))
due_was n e true r i h = tt
due_was true e false r i h = absurd (i tt)
due_was false e false r i h = h

shut : (n e s r : Bool) → T (s || (r && not s)) → (T ((n && not e) || (r && not s)) → ⊥) → T e ⊎ (T s × (T n → ⊥))
shut n true s r h k = inl tt
shut true false s r h k = absurd (k tt)
shut false false true r h k = inr (tt, λ u. u)
shut false false false r h k = absurd (k h)

ahead_was : (n e s r : Bool) → T (((n && not e) || (r && not s)) || not (s || (r && not s))) → T (n || not s)
ahead_was true e s r h = tt
ahead_was false e false r h = tt
ahead_was false e true true h = h
ahead_was false e true false h = h

ahead_not : (n e s r : Bool) → T e → T s → T (((n && not e) || (r && not s)) || not (s || (r && not s))) → ⊥
ahead_not n false s r h k = absurd h
ahead_not n true false r h k = absurd k
ahead_not true true true true h k = λ z. z
ahead_not true true true false h k = λ z. z
ahead_not false true true true h k = λ z. z
ahead_not false true true false h k = λ z. z

module _ (arrow : ℕ → ℕ → Bool) (start : ℕ → Bool) where
  pub spread_start : Spread arrow start start start
  spread_start = record {
    sound = λ p e q h. one (subst (λ b. T b) (e q) h);
    first = λ q h. h;
    due = λ q h. h;
    closed = λ p q h n a. absurd (n h);
  }

  -- with nothing left to do every place that a walk leads to is seen
  pub spread_end : (seen todo : ℕ → Bool) → Spread arrow start seen todo → ((q : ℕ) → todo q ≡ false) → (p : ℕ) → ((q : ℕ) → start q ≡ arrow p q)
      → (q : ℕ) → Walk arrow anywhere p q → T (seen q)
  spread_end seen todo i e p r q w =
      kept_in (λ n. T (seen n)) (λ n m u a. i.closed n m u (λ v. subst (λ b. T b) (e n) v) a) (λ n a. i.first n (subst (λ b. T b) (sym (r n)) a)) w

  -- one turn: the place t is taken out of `todo`, and the places that its arrows lead to are added where they are new
  module _ (seen todo row rest fresh seen' todo' : ℕ → Bool) (t : ℕ) (i : Spread arrow start seen todo) (h : T (todo t))
      (r : (q : ℕ) → row q ≡ arrow t q) (d : (q : ℕ) → rest q ≡ (todo q && not (eqb q t))) (f : (q : ℕ) → fresh q ≡ (row q && not (seen q)))
      (s : (q : ℕ) → seen' q ≡ (seen q || fresh q)) (u : (q : ℕ) → todo' q ≡ (rest q || fresh q)) where
    seen_is : (q : ℕ) → seen' q ≡ (seen q || (row q && not (seen q)))
    seen_is q = s q ∙ ap (λ b. seen q || b) (f q)

    todo_is : (q : ℕ) → todo' q ≡ ((todo q && not (eqb q t)) || (row q && not (seen q)))
    todo_is q = u q ∙ ap₂ (λ a b. a || b) (d q) (f q)

    keep : (q : ℕ) → T (seen q) → T (seen' q)
    keep q v = subst (λ b. T b) (sym (seen_is q)) (or_fst (seen q) (row q && not (seen q)) v)

    hit : (q : ℕ) → T (arrow t q) → T (seen' q)
    hit q a = subst (λ b. T b) (sym (seen_is q)) (fresh_or (seen q) (row q) (subst (λ b. T b) (sym (r q)) a))

    pub spread_step : Spread arrow start seen' todo'
    spread_step = record {
      sound = λ p e q v. ⊎_elim (λ w. i.sound p e q w) (λ w. append (i.sound p e t (i.due t h)) tt (one (subst (λ b. T b) (r q) w))) (or_was (seen q) (row q) (subst (λ b. T b) (seen_is q) v));
      first = λ q a. keep q (i.first q a);
      due = λ q v. subst (λ b. T b) (sym (seen_is q)) (due_was (todo q) (eqb q t) (seen q) (row q) (i.due q) (subst (λ b. T b) (todo_is q) v));
      closed = λ p q v n a.
          ⊎_elim
          (λ e. hit q (subst (λ m. T (arrow m q)) (eqb→eq p t e) a))
          (λ w. keep q (i.closed p q w.0 w.1 a))
          (shut (todo p) (eqb p t) (seen p) (row p) (subst (λ b. T b) (seen_is p) v) (λ w. n (subst (λ b. T b) (sym (todo_is p)) w)));
    }

    ahead_is : (q : ℕ) → (todo' q || not (seen' q)) ≡ (((todo q && not (eqb q t)) || (row q && not (seen q))) || not (seen q || (row q && not (seen q))))
    ahead_is q = ap₂ (λ a b. a || not b) (todo_is q) (seen_is q)

    pub ahead_less : t < 64 → ahead seen' todo' < ahead seen todo
    ahead_less l =
        count_less (λ k. todo' k || not (seen' k)) (λ k. todo k || not (seen k))
        (λ k v. ahead_was (todo k) (eqb k t) (seen k) (row k) (subst (λ b. T b) (ahead_is k) v)) 64 t l
        (λ v. ahead_not (todo t) (eqb t t) (seen t) (row t) (eqb_refl t) (i.due t h) (subst (λ b. T b) (ahead_is t) v))
        (or_fst (todo t) (not (seen t)) h)
