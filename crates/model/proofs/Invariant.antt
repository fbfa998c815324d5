-- What the graph of a book keeps of the graph of its log, and that beginning, removing, forgetting and finishing keep it.
use Rattle.std.proofs.Common.{◌≡◌, ℕ, Bool, ◌⊎◌, sym, refl, subst, inl, inr}
use Rattle.std.proofs.lemmas.Bool.{cases_eq}
use Rattle.model.proofs.Walks.{way_join, way_bind, way_map, way_split}
use Rattle.model.proofs.Walks.Way.{last, next}
use Rattle.model.proofs.Graphs.{Graph, TightWay, AnyWay, Active, Formed, Same, formed_same, tight_in, tight_out, was_active, way_ends, empty, formed_empty, with_new_job, formed_new_job, without, formed_without, bypassed, formed_bypassed, ended, formed_ended}

-- a done job that marked e, with a tight way from a to it
abbrev pub Stand : Graph → ℕ → Bool → ℕ → Type 0
Stand S a m e = (k : ℕ) × S.done k × TightWay S a k × S.mark m k e

-- what the book's graph B keeps of the log's graph L
pub record Inv (B L : Graph) : Type 0 where
  pub book : Formed B
  pub log : Formed L
  pub mark_in : (m : Bool) (n e : ℕ) → B.mark m n e → L.mark m n e
  pub mark_out : (m : Bool) (n e : ℕ) → B.here n → L.mark m n e → B.mark m n e
  pub done_in : (n : ℕ) → B.done n → L.done n
  pub done_out : (n : ℕ) → B.here n → L.done n → B.done n
  pub stays : (n : ℕ) → L.here n → (L.done n → ⊥) → B.here n
  -- an arrow of the book is a tight way of the log
  pub sound : (u v : ℕ) → B.arrow u v → TightWay L u v
  -- a tight way of the log between active jobs is one of the book
  pub reach : (a x : ℕ) → Active B a → Active B x → TightWay L a x → TightWay B a x
  -- for a done job that an active one reaches in the log, the book has one that marked the same
  pub stand : (a x : ℕ) (m : Bool) (e : ℕ) → Active B a → L.done x → TightWay L a x → L.mark m x e → Stand B a m e
  -- the log has no circle
  pub straight : (u : ℕ) → AnyWay L u u → ⊥

pub inv_same : {B B' L L' : Graph} → Same B B' → Same L L' → Inv B L → Inv B' L'
inv_same {B} {B'} {L} {L'} b l h = record {
  book = formed_same b h.book;
  log = formed_same l h.log;
  mark_in = λ m n e t. (l.mark_is m n e).0 (h.mark_in m n e ((b.mark_is m n e).1 t));
  mark_out = λ m n e i t. (b.mark_is m n e).0 (h.mark_out m n e ((b.here_is n).1 i) ((l.mark_is m n e).1 t));
  done_in = λ n t. (l.done_is n).0 (h.done_in n ((b.done_is n).1 t));
  done_out = λ n i t. (b.done_is n).0 (h.done_out n ((b.here_is n).1 i) ((l.done_is n).1 t));
  stays = λ n i f. (b.here_is n).0 (h.stays n ((l.here_is n).1 i) (λ d. f ((l.done_is n).0 d)));
  sound = λ u v t. tight_in l (h.sound u v ((b.arrow_is u v).1 t));
  reach = λ a x α χ w. tight_in b (h.reach a x (was_active b a α) (was_active b x χ) (tight_out l w));
  stand = λ a x m e α d w t. let r = h.stand a x m e (was_active b a α) ((l.done_is x).1 d) (tight_out l w) ((l.mark_is m x e).1 t) in
      (r.0, (b.done_is r.0).0 r.1, tight_in b r.2, (b.mark_is m r.0 e).0 r.3);
  straight = λ u w. h.straight u (way_map (λ p q. (l.arrow_is p q).1) (λ n t. t) w);
}

-- the ways of the book are ways of the log
pub any_way_log : {B L : Graph} → Inv B L → {p q : ℕ} → AnyWay B p q → AnyWay L p q
any_way_log h w = way_bind (λ u v a. way_map (λ x y t. t) (λ n t. tt) (h.sound u v a)) (λ n t. tt) w

pub inv_empty : Inv empty empty
inv_empty = record {
  book = formed_empty;
  log = formed_empty;
  mark_in = λ m n e t. t;
  mark_out = λ m n e i t. t;
  done_in = λ n t. t;
  done_out = λ n i t. t;
  stays = λ n i f. i;
  sound = λ u v t. absurd t;
  reach = λ a x α χ w. absurd α.0;
  stand = λ a x m e α d w t. absurd t;
  straight = λ u w. (way_ends formed_empty w).0;
}

pub inv_new_job : {B L : Graph} (i : ℕ) → (L.here i → ⊥) → Inv B L → Inv (with_new_job B i) L
inv_new_job {B} {L} i none h = record {
  book = formed_new_job i h.book;
  log = h.log;
  mark_in = h.mark_in;
  mark_out = λ m n e c t. h.mark_out m n e (was n (h.log.mark_here m n e t) c) t;
  done_in = h.done_in;
  done_out = λ n c t. h.done_out n (was n (h.log.done_here n t) c) t;
  stays = λ n c f. inl (h.stays n c f);
  sound = h.sound;
  reach = λ a x α χ w. let r = way_ends h.log w in h.reach a x (was a r.0 α.0, α.1) (was x r.1 χ.0, χ.1) w;
  stand = λ a x m e α d w t. h.stand a x m e (was a (way_ends h.log w).0 α.0, α.1) d w t;
  straight = h.straight;
}
  where
    was : (n : ℕ) → L.here n → B.here n ⊎ (n ≡ i) → B.here n
    was n c (inl t) = t
    was n c (inr e) = absurd (none (subst L.here e c))

-- a tight way does not pass a job that is not done
around : (S : Graph) (j : ℕ) → (S.done j → ⊥) → {p q : ℕ} → TightWay S p q → (p ≡ j → ⊥) → (q ≡ j → ⊥) → TightWay (without S j) p q
around S j un (last a) f g = last (a, f, g)
around S j un (next {p} {r} {q} a d w) f g = next (a, f, h) (d, h) (around S j un w h g)
  where
    h : r ≡ j → ⊥
    h e = un (subst S.done e d)

back : (S : Graph) (j : ℕ) {p q : ℕ} → TightWay (without S j) p q → TightWay S p q
back S j w = way_map {I = λ n. S.done n × (n ≡ j → ⊥)} (λ u v t. t.0) (λ n t. t.0) w

pub inv_without : {B L : Graph} (j : ℕ) → Active B j → Inv B L → Inv (without B j) (without L j)
inv_without {B} {L} j act h = record {
  book = formed_without j h.book;
  log = formed_without j h.log;
  mark_in = λ m n e t. (h.mark_in m n e t.0, t.1);
  mark_out = λ m n e i t. (h.mark_out m n e i.0 t.0, t.1);
  done_in = λ n t. (h.done_in n t.0, t.1);
  done_out = λ n i t. (h.done_out n i.0 t.0, t.1);
  stays = λ n i f. (h.stays n i.0 (λ d. f (d, i.1)), i.1);
  sound = λ u v t. around L j unl (h.sound u v t.0) t.1 t.2;
  reach = λ a x α χ w. around B j act.1 (h.reach a x (was a α) (was x χ) (back L j w)) α.0.1 χ.0.1;
  stand = λ a x m e α d w t. let r = h.stand a x m e (was a α) d.0 (back L j w) t.0 in
      let f = other r.0 r.1 in (r.0, (r.1, f), around B j act.1 r.2 α.0.1 f, (r.3, f));
  straight = λ u w. h.straight u (way_map (λ p q t. t.0) (λ n t. t) w);
}
  where
    unl : L.done j → ⊥
    unl d = act.1 (h.done_out j act.0 d)

    was : (n : ℕ) → Active (without B j) n → Active B n
    was n α = (α.0.0, λ d. α.1 (d, α.0.1))

    other : (k : ℕ) → B.done k → k ≡ j → ⊥
    other k d e = act.1 (subst B.done e d)

-- a way between other jobs leads past the forgotten job
round : (S : Graph) (i : ℕ) {p q : ℕ} → TightWay S p q → (q ≡ i → ⊥)
    → ((p ≡ i → ⊥) → TightWay (bypassed S i) p q) × (p ≡ i → (u : ℕ) → S.arrow u i → (u ≡ i → ⊥) → TightWay (bypassed S i) u q)
round S i (last {p} {q} a) g = (λ f. last (inl a, f, g), λ e u b f. last (inr (b, subst (λ x. S.arrow x q) e a), f, g))
round S i (next {p} {r} {q} a d w) g = go (round S i w g) (cases_eq r i)
  where
    go : ((r ≡ i → ⊥) → TightWay (bypassed S i) r q) × (r ≡ i → (u : ℕ) → S.arrow u i → (u ≡ i → ⊥) → TightWay (bypassed S i) u q)
        → (r ≡ i) ⊎ (r ≡ i → ⊥)
        → ((p ≡ i → ⊥) → TightWay (bypassed S i) p q) × (p ≡ i → (u : ℕ) → S.arrow u i → (u ≡ i → ⊥) → TightWay (bypassed S i) u q)
    go ih (inl e) = (λ f. ih.1 e p (subst (λ x. S.arrow p x) e a) f, λ e' u b f. ih.1 e u b f)
    go ih (inr k) = (λ f. next (inl a, f, k) (d, k) (ih.0 k), λ e u b f. next (inr (b, subst (λ x. S.arrow x r) e a), f, k) (d, k) (ih.0 k))

abbrev pub Covered : Graph → ℕ → Type 0
Covered B i = (a : ℕ) (m : Bool) (e : ℕ) → Active B a → TightWay B a i → B.mark m i e → (k : ℕ) × (k ≡ i → ⊥) × B.done k × TightWay B a k × B.mark m k e

pub inv_forgotten : {B L : Graph} (i : ℕ) → B.done i → Covered B i → Inv B L → Inv (bypassed B i) L
inv_forgotten {B} {L} i di cover h = record {
  book = formed_bypassed i h.book;
  log = h.log;
  mark_in = λ m n e t. h.mark_in m n e t.0;
  mark_out = λ m n e c t. (h.mark_out m n e c.0 t, c.1);
  done_in = λ n t. h.done_in n t.0;
  done_out = λ n c t. (h.done_out n c.0 t, c.1);
  stays = λ n c f. (h.stays n c f, λ e. f (subst L.done (sym e) (h.done_in i di)));
  sound = λ u v t. sounds u v t.0;
  reach = λ a x α χ w. (round B i (h.reach a x (was a α) (was x χ) w) χ.0.1).0 α.0.1;
  stand = λ a x m e α d w t. other a m e α (h.stand a x m e (was a α) d w t);
  straight = h.straight;
}
  where
    was : (n : ℕ) → Active (bypassed B i) n → Active B n
    was n α = (α.0.0, λ d. α.1 (d, α.0.1))

    sounds : (u v : ℕ) → B.arrow u v ⊎ (B.arrow u i × B.arrow i v) → TightWay L u v
    sounds u v (inl a) = h.sound u v a
    sounds u v (inr (a, b)) = way_join (h.sound u i a) (h.done_in i di) (h.sound i v b)

    pack : (a : ℕ) (m : Bool) (e : ℕ) → Active (bypassed B i) a → (k : ℕ) × (k ≡ i → ⊥) × B.done k × TightWay B a k × B.mark m k e → Stand (bypassed B i) a m e
    pack a m e α r = (r.0, (r.2, r.1), (round B i r.3 r.1).0 α.0.1, (r.4, r.1))

    other : (a : ℕ) (m : Bool) (e : ℕ) → Active (bypassed B i) a → Stand B a m e → Stand (bypassed B i) a m e
    other a m e α r = elim (cases_eq r.0 i) [
      | inl c ↦ pack a m e α (cover a m e (was a α) (subst (TightWay B a) c r.2) (subst (λ x. B.mark m x e) c r.3))
      | inr f ↦ pack a m e α (r.0, f, r.1, r.2, r.3)
    ]

pub inv_ended : {B L : Graph} (j : ℕ) → Active B j → L.here j → Inv B L → Inv (ended B j) (ended L j)
inv_ended {B} {L} j act lj h = record {
  book = formed_ended j act.0 h.book;
  log = formed_ended j lj h.log;
  mark_in = h.mark_in;
  mark_out = h.mark_out;
  done_in = λ n t. elim t [ inl d ↦ inl (h.done_in n d) | inr e ↦ inr e ];
  done_out = λ n i t. elim t [ inl d ↦ inl (h.done_out n i d) | inr e ↦ inr e ];
  stays = λ n i f. h.stays n i (λ d. f (inl d));
  sound = λ u v a. wide L (h.sound u v a);
  reach = λ a x α χ w. reaches a x (was a α) (was x χ) (way_split j w);
  stand = λ a x m e α d w t. stands a x m e (was a α) d (way_split j w) t;
  straight = h.straight;
}
  where
    wide : (S : Graph) {p q : ℕ} → TightWay S p q → TightWay (ended S j) p q
    wide S w = way_map (λ u v a. a) (λ n d. inl d) w

    was : (n : ℕ) → Active (ended B j) n → Active B n
    was n α = (α.0, λ d. α.1 (inl d))

    reaches : (a x : ℕ) → Active B a → Active B x → TightWay L a x ⊎ (TightWay L a j × TightWay L j x) → TightWay (ended B j) a x
    reaches a x α χ (inl w) = wide B (h.reach a x α χ w)
    reaches a x α χ (inr (v, w)) = way_join (wide B (h.reach a j α act v)) (inr refl) (wide B (h.reach j x act χ w))

    self : (a x : ℕ) (m : Bool) (e : ℕ) → Active B a → x ≡ j → TightWay L a j → L.mark m x e → Stand (ended B j) a m e
    self a x m e α c w t = (j, inr refl, wide B (h.reach a j α act w), h.mark_out m j e act.0 (subst (λ y. L.mark m y e) c t))

    stands : (a x : ℕ) (m : Bool) (e : ℕ) → Active B a → L.done x ⊎ (x ≡ j) → TightWay L a x ⊎ (TightWay L a j × TightWay L j x) → L.mark m x e
        → Stand (ended B j) a m e
    stands a x m e α (inl d) (inl w) t = let r = h.stand a x m e α d w t in (r.0, inl r.1, wide B r.2, r.3)
    stands a x m e α (inl d) (inr (v, w)) t = let r = h.stand j x m e act d w t in
        (r.0, inl r.1, way_join (wide B (h.reach a j α act v)) (inr refl) (wide B r.2), r.3)
    stands a x m e α (inr c) (inl w) t = self a x m e α c (subst (TightWay L a) c w) t
    stands a x m e α (inr c) (inr (v, w)) t = self a x m e α c v t
