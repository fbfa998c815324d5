-- What a book keeps through each change of its table.
use Rattle.std.proofs.Common.{◌≡◌, ℕ, ◌+◌, Bool, false, not, ◌&&◌, ◌||◌, T, eqb, Some, None, Option, sym, refl, ap, ◌∙◌, subst, ap₂, inl, inr, arith, eqb→eq}
use lib.Dec.{eqb_refl}
use Rattle.std.proofs.lemmas.Bool.{cases_eq}
use Rattle.model.specs.Book as Model
use Rattle.model.specs.Begin.{new_job, with_new_job}
use Rattle.model.specs.Calls.{new_book}
use Rattle.model.proofs.Tests.{and_i, and_l, and_r, or_e, apart_e}
use Rattle.table.specs.declared.jobs.Job.{Job}
use Rattle.table.specs.declared.tables.Table.{Table}
use Rattle.table.specs.Slots.{slot, bit, taken, numbered, same_number, has_setting}
use Rattle.book.specs.View.{content, view, Apart, Clean}
use Rattle.book.proofs.Founds.{numbered_job}
use Rattle.book.proofs.Shows.{Shows, Held, one_book, view_shows}
use Rattle.book.proofs.Lifts.{Changed, Lone, Neat, left_book, stepped_book, left, replaced, joined_in}
use Rattle.book.proofs.Wholes.{Moved}

pub lone : (t : Table) → Apart t → (n k : ℕ) → T (numbered n (slot t k)) → Lone (slot t) n k
lone t A n k p i x e f = A i k (subst (λ o. T (same_number o (slot t k))) (sym e) (subst (λ m. T (numbered m (slot t k))) (sym f) p))

pub neat : (t : Table) → Clean t → Neat (slot t) (bit t)
neat t C i k p = let w = C i k p in (and_l _ _ w, and_r (taken (slot t i)) _ w)

same_swap : (o o' : Option Job) → T (same_number o o') → T (same_number o' o)
same_swap None o' t = absurd t
same_swap (Some x) None t = absurd t
same_swap (Some x) (Some y) t = subst (λ m. T (eqb x.number m)) (sym (eqb→eq y.number x.number t)) (eqb_refl x.number)

-- a new table

module _ (s l : ℕ) (t : Table) (empty : (i : ℕ) → slot t i ≡ None) (bare : (p q : ℕ) → bit t p q ≡ false) where
  apart_new : Apart t
  apart_new i k p = absurd (subst (λ o. T (same_number o (slot t k))) (empty i) p)

  pub new_moved : Moved s l 0 t (new_book s l)
  new_moved = record {
    apart = apart_new;
    clean = λ i k p. absurd (subst T (bare i k) p);
    is = one_book (slot t) (bit t) (view s l 0 t) (new_book s l) (view_shows s l 0 t apart_new)
        (record {
          here = λ i j e. let f = empty i in let z : ◌≡◌ {A = ℕ} 0 1 = cc in absurd (omega arith);
          placed = λ n h. absurd h;
          between = λ i k j m e g. let f = empty i in let z : ◌≡◌ {A = ℕ} 0 1 = cc in absurd (omega arith);
          ends = λ p q h. absurd h;
        })
        refl refl refl;
  }

-- one place of a table changes

module _ (t t' : Table) (A : Apart t) (k : ℕ) (o : Option Job) (C : Changed (slot t) (slot t') k o) where
  apart_changed : ((i : ℕ) → (i ≡ k → ⊥) → T (same_number o (slot t i)) → ⊥) → Apart t'
  apart_changed new i l p = elim (cases_eq i k) [
    | inl e ↦ elim (cases_eq l k) [
      | inl f ↦ e ∙ sym f
      | inr g ↦ absurd (new l g (subst (λ z. T (same_number z (slot t l))) (ap (slot t') e ∙ C.same) (subst (λ z. T (same_number (slot t' i) z)) (C.other l g) p)))
    ]
    | inr g ↦ elim (cases_eq l k) [
      | inl f ↦ absurd (new i g (same_swap (slot t i) o (subst (λ z. T (same_number (slot t i) z)) (ap (slot t') f ∙ C.same) (subst (λ z. T (same_number z (slot t' l))) (C.other i g) p))))
      | inr m ↦ A i l (subst (λ z. T (same_number (slot t i) z)) (C.other l m) (subst (λ z. T (same_number z (slot t' l))) (C.other i g) p))
    ]
  ]

-- the job of a place leaves

module _ (s l n : ℕ) (t t' : Table) (A : Apart t) (C : Clean t) (m k : ℕ) (at : T (numbered m (slot t k))) (G : Changed (slot t) (slot t') k None) where
  clean_left : (B : ℕ → ℕ → Bool) → ((p q : ℕ) → T (B p q) → T (taken (slot t p) && taken (slot t q)))
      → ((p q : ℕ) → bit t' p q ≡ (not (eqb p k) && (not (eqb q k) && B p q))) → Clean t'
  clean_left B g h p q b =
      let u : T (not (eqb p k) && (not (eqb q k) && B p q)) = subst T (h p q) b in
      let v : T (not (eqb q k) && B p q) = and_r (not (eqb p k)) _ u in
      let w = g p q (and_r (not (eqb q k)) (B p q) v) in
      and_i _ _
      (subst (λ o. T (taken o)) (sym (G.other p (apart_e p k (and_l _ _ u)))) (and_l _ _ w))
      (subst (λ o. T (taken o)) (sym (G.other q (apart_e q k (and_l _ (B p q) v)))) (and_r (taken (slot t p)) _ w))

  S : Shows (slot t) (bit t) (view s l n t)
  S = view_shows s l n t A

  job : (j : Job) × (slot t k ≡ Some j) × (j.number ≡ m)
  job = numbered_job m (slot t k) at

  left_moved : (R B : ℕ → ℕ → Bool)
      → ((i q : ℕ) (x y : Job) → slot t i ≡ Some x → slot t q ≡ Some y → R x.number y.number ≡ B i q)
      → ((p q : ℕ) → T (R p q) → T (Model.is_held (view s l n t) p) × T (Model.is_held (view s l n t) q))
      → ((p q : ℕ) → T (B p q) → T (taken (slot t p) && taken (slot t q)))
      → ((p q : ℕ) → bit t' p q ≡ (not (eqb p k) && (not (eqb q k) && B p q)))
      → Moved s l n t' (left_book (view s l n t) m R)
  left_moved R B like ends there h =
      let apart : Apart t' = apart_changed t t' A k None G (λ i ne p. p) in
      record {
        apart = apart;
        clean = clean_left B there h;
        is = one_book (slot t') (bit t') (view s l n t') (left_book (view s l n t) m R) (view_shows s l n t' apart)
            (left (slot t) (slot t') (bit t) (bit t') (view s l n t) S k m (lone t A m k at) job.0 job.1 job.2 G R B like ends h)
            refl refl refl;
      }

  pub removed_moved : ((p q : ℕ) → bit t' p q ≡ (not (eqb p k) && (not (eqb q k) && bit t p q))) → Moved s l n t' (Model.removed (view s l n t) m)
  removed_moved h = left_moved (view s l n t).arrow (bit t) S.between S.ends C h

  pub forgotten_moved : ((p q : ℕ) → bit t' p q ≡ (not (eqb p k) && (not (eqb q k) && (bit t p q || (bit t p k && bit t k q)))))
      → Moved s l n t' (Model.forgotten (view s l n t) m)
  forgotten_moved h =
      let b : Model.Book = view s l n t in
      left_moved (λ p q. b.arrow p q || (b.arrow p m && b.arrow m q)) (λ p q. bit t p q || (bit t p k && bit t k q))
      (λ i q x y e f. ap₂ ◌||◌ (S.between i q x y e f)
      (ap₂ ◌&&◌ (ap (b.arrow x.number) (sym job.2) ∙ S.between i k x job.0 e job.1) (ap (λ z. b.arrow z y.number) (sym job.2) ∙ S.between k q job.0 y job.1 f)))
      (λ p q a. elim (or_e (b.arrow p q) (b.arrow p m && b.arrow m q) a) [
        | inl x ↦ S.ends p q x
        | inr x ↦ ((S.ends p m (and_l _ (b.arrow m q) x)).0, (S.ends m q (and_r (b.arrow p m) _ x)).1)
      ])
      (λ p q a. elim (or_e (bit t p q) (bit t p k && bit t k q) a) [
        | inl x ↦ C p q x
        | inr x ↦ and_i _ _ (and_l _ (taken (slot t k)) (C p k (and_l _ (bit t k q) x))) (and_r (taken (slot t k)) _ (C k q (and_r (bit t p k) _ x)))
      ])
      h

still_taken : (t t' : Table) (k : ℕ) (j' : Job) → Changed (slot t) (slot t') k (Some j') → (i : ℕ) → T (taken (slot t i)) → T (taken (slot t' i))
still_taken t t' k j' G i p = elim (cases_eq i k) [
  | inl f ↦ subst (λ o. T (taken o)) (sym (ap (slot t') f ∙ G.same)) tt
  | inr f ↦ subst (λ o. T (taken o)) (sym (G.other i f)) p
]

-- a job is replaced where it stands, and gets arrows from the places of a mask

module _ (s l n : ℕ) (t t' : Table) (A : Apart t) (C : Clean t) (m k : ℕ) (at : T (numbered m (slot t k)))
    (j' : Job) (num : j'.number ≡ m) (G : Changed (slot t) (slot t') k (Some j')) (mask : ℕ → Bool)
    (there : (p : ℕ) → T (mask p) → T (taken (slot t p))) (more : (p q : ℕ) → bit t' p q ≡ (bit t p q || (eqb q k && mask p))) where
  clean_stepped : Clean t'
  clean_stepped p q b = elim (or_e (bit t p q) (eqb q k && mask p) (subst T (more p q) b)) [
    | inl a ↦ let w = C p q a in and_i _ _ (still_taken t t' k j' G p (and_l _ _ w)) (still_taken t t' k j' G q (and_r (taken (slot t p)) _ w))
    | inr a ↦
        let u : q ≡ k = eqb→eq q k (and_l (eqb q k) (mask p) a) in
        and_i _ _ (still_taken t t' k j' G p (there p (and_r (eqb q k) (mask p) a))) (subst (λ o. T (taken o)) (sym (ap (slot t') u ∙ G.same)) tt)
  ]

  pub stepped_moved : (J : Option Model.Job) → J ≡ Some (content j') → (M : ℕ → Bool)
      → ((i : ℕ) (x : Job) → slot t i ≡ Some x → M x.number ≡ mask i) → ((p : ℕ) → T (M p) → T (Model.is_held (view s l n t) p))
      → Moved s l n t' (stepped_book (view s l n t) m J M)
  stepped_moved J is M like from_held =
      let job = numbered_job m (slot t k) at in
      let L = lone t A m k at in
      let apart : Apart t' = apart_changed t t' A k (Some j') G (λ i ne p. let r = numbered_job j'.number (slot t i) p in ne (L i r.0 r.1 (r.2 ∙ num))) in
      record {
        apart = apart;
        clean = clean_stepped;
        is = one_book (slot t') (bit t') (view s l n t') (stepped_book (view s l n t) m J M) (view_shows s l n t' apart)
            (replaced (slot t) (slot t') (bit t) (bit t') (view s l n t) (view_shows s l n t A) k m L job.0 job.1 job.2 j' G num J is M mask like from_held more)
            refl refl refl;
      }

-- a new job takes a free place

module _ (s l n : ℕ) (t t' : Table) (A : Apart t) (C : Clean t) (k : ℕ) (free : slot t k ≡ None) (fresh : T (Model.is_held (view s l n t) (n + 1)) → ⊥)
    (j' : Job) (num : j'.number ≡ n + 1) (unfinished : j'.finished ≡ false)
    (reads : (d : ℕ) → has_setting j'.reads d ≡ false) (writes : (d : ℕ) → has_setting j'.writes d ≡ false)
    (G : Changed (slot t) (slot t') k (Some j')) (kept : (p q : ℕ) → bit t' p q ≡ bit t p q) where
  pub entered_moved : Moved s l (n + 1) t' (with_new_job (view s l n t))
  entered_moved =
      let held_at : (i : ℕ) (x : Job) → slot t i ≡ Some x → x.number ≡ n + 1 → T (Model.is_held (view s l n t) (n + 1)) =
      λ i x e f. subst (λ m. T (Model.is_held (view s l n t) m)) f (subst Held (sym ((view_shows s l n t A).here i x e)) tt) in
      let apart : Apart t' = apart_changed t t' A k (Some j') G (λ i ne p. let r = numbered_job j'.number (slot t i) p in fresh (held_at i r.0 r.1 (r.2 ∙ num))) in
      record {
        apart = apart;
        clean = λ p q b. let w = C p q (subst T (kept p q) b) in and_i _ _ (still_taken t t' k j' G p (and_l _ _ w)) (still_taken t t' k j' G q (and_r (taken (slot t p)) _ w));
        is = one_book (slot t') (bit t') (view s l (n + 1) t') (with_new_job (view s l n t)) (view_shows s l (n + 1) t' apart)
            (joined_in (slot t) (slot t') (bit t) (bit t') (view s l n t) (view_shows s l n t A) k (n + 1) free fresh (neat t C) kept j' G num (Some new_job)
            (λ i. Some (record { finished = sym unfinished i; has_read = λ d. sym (reads d) i; has_written = λ d. sym (writes d) i })) (n + 1))
            refl refl refl;
      }
