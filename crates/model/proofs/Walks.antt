-- Ways: walks whose arrows and inner nodes are given by types; `joined` is the test for them.
use Rattle.std.proofs.Common.{◌≡◌, ℕ, Bool, ◌&&◌, ◌||◌, T, eqb, ◌⊎◌, List, [], ◌∷◌, subst, inl, inr, eqb→eq}
use lib.Dec.{eqb_refl}
use Rattle.std.proofs.lemmas.Bool.{cases_eq}
use Rattle.model.specs.Lists.{among}
use Rattle.graph.specs.Walk.{Walk}
use Rattle.model.specs.Paths.{joined}
use Rattle.graph.specs.Walk.Walk.{one, more}
use Rattle.model.proofs.Tests.{or_l, or_r, or_e, and_i, and_l, and_r}

pub data Way (R : ℕ → ℕ → Type 0) (I : ℕ → Type 0) : ℕ → ℕ → Type 0 where
  last : {p q : ℕ} → R p q → Way R I p q
  next : {p r q : ℕ} → R p r → I r → Way R I r q → Way R I p q

pub way_join : {R : ℕ → ℕ → Type 0} {I : ℕ → Type 0} {p k q : ℕ} → Way R I p k → I k → Way R I k q → Way R I p q
way_join (last a) i w = next a i w
way_join (next a j v) i w = next a j (way_join v i w)

pub way_bind : {R R' : ℕ → ℕ → Type 0} {I I' : ℕ → Type 0} → ((u v : ℕ) → R u v → Way R' I' u v) → ((n : ℕ) → I n → I' n) → {p q : ℕ} → Way R I p q → Way R' I' p q
way_bind f g (last {p} {q} a) = f p q a
way_bind f g (next {p} {r} {q} a i w) = way_join (f p r a) (g r i) (way_bind f g w)

pub way_map : {R R' : ℕ → ℕ → Type 0} {I I' : ℕ → Type 0} → ((u v : ℕ) → R u v → R' u v) → ((n : ℕ) → I n → I' n) → {p q : ℕ} → Way R I p q → Way R' I' p q
way_map f g (last {p} {q} a) = last (f p q a)
way_map f g (next {p} {r} {q} a i w) = next (f p r a) (g r i) (way_map f g w)

-- a way that may pass k either does not, or is a way to k and a way from k that do not
pub way_split : {R : ℕ → ℕ → Type 0} {I : ℕ → Type 0} (k : ℕ) {p q : ℕ} → Way R (λ n. I n ⊎ (n ≡ k)) p q → Way R I p q ⊎ (Way R I p k × Way R I k q)
way_split k (last a) = inl (last a)
way_split {R} {I} k (next {p} {r} {q} a i w) = go i (way_split k w)
  where
    go : I r ⊎ (r ≡ k) → Way R I r q ⊎ (Way R I r k × Way R I k q) → Way R I p q ⊎ (Way R I p k × Way R I k q)
    go (inl j) (inl v) = inl (next a j v)
    go (inl j) (inr (v, u)) = inr (next a j v, u)
    go (inr e) (inl v) = inr (last (subst (λ x. R p x) e a), subst (λ x. Way R I x q) e v)
    go (inr e) (inr (v, u)) = inr (last (subst (λ x. R p x) e a), u)

-- after its last visit to j, a way from j passes it no more
way_past : {R : ℕ → ℕ → Type 0} {I : ℕ → Type 0} (j : ℕ) {p q : ℕ} → Way R I p q → Way R (λ n. I n × (n ≡ j → ⊥)) p q ⊎ Way R (λ n. I n × (n ≡ j → ⊥)) j q
way_past j (last a) = inl (last a)
way_past {R} {I} j (next {p} {r} {q} a i w) = go (cases_eq r j) (way_past j w)
  where
    go : (r ≡ j) ⊎ (r ≡ j → ⊥) → Way R (λ n. I n × (n ≡ j → ⊥)) r q ⊎ Way R (λ n. I n × (n ≡ j → ⊥)) j q
        → Way R (λ n. I n × (n ≡ j → ⊥)) p q ⊎ Way R (λ n. I n × (n ≡ j → ⊥)) j q
    go d (inr v) = inr v
    go (inl e) (inl v) = inr (subst (λ x. Way R (λ n. I n × (n ≡ j → ⊥)) x q) e v)
    go (inr d) (inl v) = inl (next a (i, d) v)

pub way_from : {R : ℕ → ℕ → Type 0} {I : ℕ → Type 0} (j : ℕ) {q : ℕ} → Way R I j q → Way R (λ n. I n × (n ≡ j → ⊥)) j q
way_from j w = elim (way_past j w) [ inl v ↦ v | inr v ↦ v ]

-- walks and ways

abbrev pub Arrow : (ℕ → ℕ → Bool) → ℕ → ℕ → Type 0
Arrow f u v = T (f u v)

pub walk_way : {f : ℕ → ℕ → Bool} {i : ℕ → Bool} {p q : ℕ} → Walk f i p q → Way (Arrow f) (λ n. T (i n)) p q
walk_way (one a) = last a
walk_way (more a i w) = next a i (walk_way w)

pub way_walk : {f : ℕ → ℕ → Bool} {i : ℕ → Bool} {p q : ℕ} → Way (Arrow f) (λ n. T (i n)) p q → Walk f i p q
way_walk (last a) = one a
way_walk (next a i w) = more a i (way_walk w)

pub joined_way : (f : ℕ → ℕ → Bool) (ks : List ℕ) (p q : ℕ) → T (joined f ks p q) → Way (Arrow f) (λ n. T (among n ks)) p q
joined_way f [] p q t = last t
joined_way f (k ∷ ks) p q t = elim (or_e (joined f ks p q) (joined f ks p k && joined f ks k q) t) [
  | inl s ↦ wide (joined_way f ks p q s)
  | inr s ↦ way_join (wide (joined_way f ks p k (and_l (joined f ks p k) (joined f ks k q) s))) (or_l (eqb k k) (among k ks) (eqb_refl k))
      (wide (joined_way f ks k q (and_r (joined f ks p k) (joined f ks k q) s)))
]
  where
    wide : {u v : ℕ} → Way (Arrow f) (λ n. T (among n ks)) u v → Way (Arrow f) (λ n. T (among n (k ∷ ks))) u v
    wide w = way_map (λ a b r. r) (λ n r. or_r (eqb n k) (among n ks) r) w

pub way_joined : (f : ℕ → ℕ → Bool) (ks : List ℕ) (p q : ℕ) → Way (Arrow f) (λ n. T (among n ks)) p q → T (joined f ks p q)
way_joined f [] p q (last a) = a
way_joined f [] p q (next a i w) = elim i [ ]
way_joined f (k ∷ ks) p q w = go (λ u v x. way_joined f ks u v x) (way_split k (way_map (λ a b r. r) (λ n r. turn n (or_e (eqb n k) (among n ks) r)) w))
  where
    turn : (n : ℕ) → T (eqb n k) ⊎ T (among n ks) → T (among n ks) ⊎ (n ≡ k)
    turn n (inl e) = inr (eqb→eq n k e)
    turn n (inr s) = inl s

    go : ((u v : ℕ) → Way (Arrow f) (λ n. T (among n ks)) u v → T (joined f ks u v))
        → Way (Arrow f) (λ n. T (among n ks)) p q ⊎ (Way (Arrow f) (λ n. T (among n ks)) p k × Way (Arrow f) (λ n. T (among n ks)) k q)
        → T (joined f ks p q || (joined f ks p k && joined f ks k q))
    go ih (inl v) = or_l (joined f ks p q) (joined f ks p k && joined f ks k q) (ih p q v)
    go ih (inr (v, u)) = or_r (joined f ks p q) (joined f ks p k && joined f ks k q) (and_i (joined f ks p k) (joined f ks k q) (ih p k v) (ih k q u))
