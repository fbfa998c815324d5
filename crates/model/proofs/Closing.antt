-- A step of an active job: what it adds to the graphs, when it closes a circle, and that it closes one in the graph of the book exactly when it does in the graph of the log.
use Rattle.std.proofs.Common.{◌≡◌, ℕ, Bool, ◌⊎◌, sym, refl, ◌∙◌, subst, inl, inr}
use Rattle.model.proofs.Walks.{way_join, way_map}
use Rattle.model.proofs.Walks.Way.{last, next}
use Rattle.model.proofs.Graphs.{Graph, TightWay, AnyWay, Active, Conflict, Closes, stepped, formed_stepped}
use Rattle.model.proofs.Invariant.{Stand, Inv, any_way_log}

module _ (m : Bool) (E : ℕ → Type 0) (M : Bool → ℕ → Type 0) (j : ℕ) where
  -- a tight way after the step was one before it, or ends with a new arrow
  new_tight_way : (L : Graph) → (L.done j → ⊥) → {p q : ℕ} → TightWay (stepped L m E M j) p q
      → TightWay L p q ⊎ ((q ≡ j) × ((y : ℕ) × (y ≡ j → ⊥) × Conflict L m E y × ((p ≡ y) ⊎ (L.done y × TightWay L p y))))
  new_tight_way L un (last (inl a)) = inl (last a)
  new_tight_way L un (last {p} {q} (inr (e, f, c))) = inr (e, (p, f, c, inl refl))
  new_tight_way L un (next {p} {r} {q} (inr (e, f, c)) d w) = absurd (un (subst L.done e d))
  new_tight_way L un (next {p} {r} {q} (inl a) d w) = go (new_tight_way L un w)
    where
      late : (y : ℕ) → (r ≡ y) ⊎ (L.done y × TightWay L r y) → (p ≡ y) ⊎ (L.done y × TightWay L p y)
      late y (inl e) = inr (subst L.done e d, last (subst (L.arrow p) e a))
      late y (inr (dy, v)) = inr (dy, next a d v)

      go : TightWay L r q ⊎ ((q ≡ j) × ((y : ℕ) × (y ≡ j → ⊥) × Conflict L m E y × ((r ≡ y) ⊎ (L.done y × TightWay L r y))))
          → TightWay L p q ⊎ ((q ≡ j) × ((y : ℕ) × (y ≡ j → ⊥) × Conflict L m E y × ((p ≡ y) ⊎ (L.done y × TightWay L p y))))
      go (inl v) = inl (next a d v)
      go (inr (e, y)) = inr (e, (y.0, y.1, y.2, late y.0 y.3))

  -- a way after the step was one, or shows that the step closes a circle, or passes one new arrow
  abbrev Passes : Graph → ℕ → ℕ → Type 0
  Passes L p q = (x : ℕ) × (x ≡ j → ⊥) × Conflict L m E x × ((p ≡ x) ⊎ AnyWay L p x) × ((j ≡ q) ⊎ AnyWay L j q)

  new_any_way : (L : Graph) {p q : ℕ} → AnyWay (stepped L m E M j) p q → AnyWay L p q ⊎ (Closes L m E j ⊎ Passes L p q)
  new_any_way L (last (inl a)) = inl (last a)
  new_any_way L (last {p} {q} (inr (e, f, c))) = inr (inr (p, f, c, inl refl, inl (sym e)))
  new_any_way L (next {p} {r} {q} (inl a) d w) = go (new_any_way L w)
    where
      late : (x : ℕ) → (r ≡ x) ⊎ AnyWay L r x → AnyWay L p x
      late x (inl e) = last (subst (L.arrow p) e a)
      late x (inr v) = next a tt v

      go : AnyWay L r q ⊎ (Closes L m E j ⊎ Passes L r q) → AnyWay L p q ⊎ (Closes L m E j ⊎ Passes L p q)
      go (inl v) = inl (next a tt v)
      go (inr (inl c)) = inr (inl c)
      go (inr (inr s)) = inr (inr (s.0, s.1, s.2, inr (late s.0 s.3), s.4))
  new_any_way L (next {p} {r} {q} (inr (e, f, c)) d w) = go (new_any_way L w)
    where
      late : (s : Passes L r q) → (r ≡ s.0) ⊎ AnyWay L r s.0 → Closes L m E j
      late s (inl i) = absurd (s.1 (sym i ∙ e))
      late s (inr v) = (s.0, s.1, s.2, subst (λ y. AnyWay L y s.0) e v)

      go : AnyWay L r q ⊎ (Closes L m E j ⊎ Passes L r q) → AnyWay L p q ⊎ (Closes L m E j ⊎ Passes L p q)
      go (inl v) = inr (inr (p, f, c, inl refl, inr (subst (λ y. AnyWay L y q) e v)))
      go (inr (inl k)) = inr (inl k)
      go (inr (inr s)) = inr (inl (late s s.3))

  pub circle_closes : (L : Graph) → ((u : ℕ) → AnyWay L u u → ⊥) → (u : ℕ) → AnyWay (stepped L m E M j) u u → Closes L m E j
  circle_closes L str u w = go (new_any_way L w)
    where
      meet : (x : ℕ) → (x ≡ j → ⊥) → (u ≡ x) ⊎ AnyWay L u x → (j ≡ u) ⊎ AnyWay L j u → AnyWay L j x
      meet x f (inl a) (inl b) = absurd (f (sym (b ∙ a)))
      meet x f (inl a) (inr v) = subst (AnyWay L j) a v
      meet x f (inr v) (inl b) = subst (λ y. AnyWay L y x) (sym b) v
      meet x f (inr v) (inr w) = way_join w tt v

      go : AnyWay L u u ⊎ (Closes L m E j ⊎ Passes L u u) → Closes L m E j
      go (inl v) = absurd (str u v)
      go (inr (inl c)) = c
      go (inr (inr s)) = (s.0, s.1, s.2, meet s.0 s.1 s.3 s.4)

  pub closes_circle : (L : Graph) → Closes L m E j → (u : ℕ) × AnyWay (stepped L m E M j) u u
  closes_circle L c = (j, way_join (way_map (λ u v a. inl a) (λ n t. t) c.3) tt (last (inr (refl, c.1, c.2))))

  pub inv_stepped : {B L : Graph} → Active B j → (Closes L m E j → ⊥) → Inv B L → Inv (stepped B m E M j) (stepped L m E M j)
  inv_stepped {B} {L} act open_still h = record {
    book = formed_stepped m E M j h.book;
    log = formed_stepped m E M j h.log;
    mark_in = λ s n e t. elim t [ inl r ↦ inl (h.mark_in s n e r) | inr r ↦ inr r ];
    mark_out = λ s n e i t. elim t [ inl r ↦ inl (h.mark_out s n e (was n i) r) | inr r ↦ inr r ];
    done_in = h.done_in;
    done_out = λ n i t. h.done_out n (was n i) t;
    stays = λ n i f. elim i [ inl c ↦ inl (h.stays n c f) | inr e ↦ inr e ];
    sound = λ u v t. sounds u v t;
    reach = λ a x α χ w. reaches a x (was_active a α) (was_active x χ) (new_tight_way L unl w);
    stand = λ a x s e α d w t. stands a x s e (was_active a α) d (new_tight_way L unl w) t;
    straight = λ u w. open_still (circle_closes L h.straight u w);
  }
    where
      unl : L.done j → ⊥
      unl d = act.1 (h.done_out j act.0 d)

      was : (n : ℕ) → B.here n ⊎ (n ≡ j) → B.here n
      was n (inl i) = i
      was n (inr e) = subst B.here (sym e) act.0

      was_active : (n : ℕ) → Active (stepped B m E M j) n → Active B n
      was_active n α = (was n α.0, α.1)

      wide : (S : Graph) {p q : ℕ} → TightWay S p q → TightWay (stepped S m E M j) p q
      wide S w = way_map (λ u v a. inl a) (λ n d. d) w

      sounds : (u v : ℕ) → B.arrow u v ⊎ ((v ≡ j) × (u ≡ j → ⊥) × Conflict B m E u) → TightWay (stepped L m E M j) u v
      sounds u v (inl a) = wide L (h.sound u v a)
      sounds u v (inr (e, f, c)) = last (inr (e, f, (c.0, c.1, h.mark_in m u c.0 c.2)))

      into : (a x y : ℕ) → Active B a → x ≡ j → (y ≡ j → ⊥) → Conflict L m E y → (a ≡ y) ⊎ (L.done y × TightWay L a y) → TightWay (stepped B m E M j) a x
      into a x y α e f c (inl i) = last (inr (e, (λ k. f (sym i ∙ k)), (c.0, c.1, h.mark_out m a c.0 α.0 (subst (λ z. L.mark m z c.0) (sym i) c.2))))
      into a x y α e f c (inr (d, w)) = let r = h.stand a y m c.0 α d w c.2 in
          way_join (wide B r.2) r.1 (last (inr (e, (λ k. act.1 (subst B.done k r.1)), (c.0, c.1, r.3))))

      reaches : (a x : ℕ) → Active B a → Active B x
          → TightWay L a x ⊎ ((x ≡ j) × ((y : ℕ) × (y ≡ j → ⊥) × Conflict L m E y × ((a ≡ y) ⊎ (L.done y × TightWay L a y)))) → TightWay (stepped B m E M j) a x
      reaches a x α χ (inl w) = wide B (h.reach a x α χ w)
      reaches a x α χ (inr (e, y)) = into a x y.0 α e y.1 y.2 y.3

      stands : (a x : ℕ) (s : Bool) (e : ℕ) → Active B a → L.done x
          → TightWay L a x ⊎ ((x ≡ j) × ((y : ℕ) × (y ≡ j → ⊥) × Conflict L m E y × ((a ≡ y) ⊎ (L.done y × TightWay L a y))))
          → L.mark s x e ⊎ ((x ≡ j) × M s e) → Stand (stepped B m E M j) a s e
      stands a x s e α d (inr (i, y)) t = absurd (unl (subst L.done i d))
      stands a x s e α d (inl w) (inr (i, t)) = absurd (unl (subst L.done i d))
      stands a x s e α d (inl w) (inl t) = let r = h.stand a x s e α d w t in (r.0, r.1, wide B r.2, inl r.3)

-- a step closes a circle in the book's graph exactly when it does in the log's

module _ {B L : Graph} (m : Bool) (E : ℕ → Type 0) (j : ℕ) (h : Inv B L) where
  -- a way of the log from an active job is found in the book, up to a job that marked the same
  abbrev Found : ℕ → ℕ → Type 0
  Found a x = (Active B x → AnyWay B a x)
      × (L.done x → (s : Bool) (e : ℕ) → L.mark s x e → (k : ℕ) × AnyWay B a k × B.mark s k e)

  any : {p q : ℕ} → TightWay B p q → AnyWay B p q
  any w = way_map (λ u v a. a) (λ n t. tt) w

  found : {p x : ℕ} → AnyWay L p x → (a : ℕ) → Active B a → ((q : ℕ) → TightWay L p q → TightWay L a q) → Found a x
  found (last {p} {q} a) s α ext = (
    λ χ. any (h.reach s q α χ (ext q (last a))),
    λ d t e k. let r = h.stand s q t e α d (ext q (last a)) k in (r.0, any r.2, r.3),
  )
  found (next {p} {r} {q} a i w) s α ext = go (h.log.done_cases r) (λ c β f. found w c β f)
    where
      go : L.done r ⊎ (L.done r → ⊥) → ((c : ℕ) → Active B c → ((z : ℕ) → TightWay L r z → TightWay L c z) → Found c q) → Found s q
      go (inl d) ih = ih s α (λ z v. ext z (next a d v))
      go (inr f) ih =
          let β : Active B r = (h.stays r (h.log.arrow_here p r a).1 f, λ d. f (h.done_in r d)) in
          let v = any (h.reach s r α β (ext r (last a))) in
          let c = ih r β (λ z u. u) in
          (λ χ. way_join v tt (c.0 χ), λ d t e k. let y = c.1 d t e k in (y.0, way_join v tt y.1, y.2))

  pub book_log_closes : Closes B m E j → Closes L m E j
  book_log_closes c = (c.0, c.1, (c.2.0, c.2.1, h.mark_in m c.0 c.2.0 c.2.2), any_way_log h c.3)

  pub log_book_closes : Active B j → Closes L m E j → Closes B m E j
  log_book_closes α c = go (h.log.done_cases c.0) (found c.3 j α (λ q w. w))
    where
      apart_from : {k : ℕ} → AnyWay B j k → k ≡ j → ⊥
      apart_from w i = h.straight j (any_way_log h (subst (AnyWay B j) i w))

      go : L.done c.0 ⊎ (L.done c.0 → ⊥) → Found j c.0 → Closes B m E j
      go (inl d) f = let y = f.1 d m c.2.0 c.2.2 in (y.0, apart_from y.1, (c.2.0, c.2.1, y.2), y.1)
      go (inr n) f =
          let i = h.stays c.0 (h.log.mark_here m c.0 c.2.0 c.2.2) n in
          (c.0, c.1, (c.2.0, c.2.1, h.mark_out m c.0 c.2.0 i c.2.2), f.0 (i, λ d. n (h.done_in c.0 d)))
