-- A change of one place of a table shows as a change of one job of its book.
use Rattle.std.proofs.Common.{◌≡◌, ℕ, Bool, false, cond, not, ◌&&◌, ◌||◌, T, eqb, Some, None, Option, sym, refl, ap, ◌∙◌, subst, ap₂, inl, inr, arith, eqb→eq}
use Rattle.std.proofs.lemmas.Bool.{cases_eq, eq-eqb, ne_eqb, cond-true, cond-false}
use Rattle.model.specs.Book as Model
use Rattle.model.proofs.Tests.{and_l, and_r, or_e, apart_e, T_false}
use Rattle.table.specs.declared.jobs.Job.{Job}
use Rattle.table.specs.Slots.{taken}
use Rattle.book.specs.View.{content}
use Rattle.book.proofs.Shows.{Shows, Held}

-- one place changes
pub record Changed (slots slots' : ℕ → Option Job) (k : ℕ) (o : Option Job) : Type 0 where
  pub same : slots' k ≡ o
  pub other : (i : ℕ) → (i ≡ k → ⊥) → slots' i ≡ slots i

-- a number is held at one place at most
abbrev pub Lone : (ℕ → Option Job) → ℕ → ℕ → Type 0
Lone slots n k = (i : ℕ) (x : Job) → slots i ≡ Some x → x.number ≡ n → i ≡ k

-- no arrow leads from or to an empty place
abbrev pub Neat : (ℕ → Option Job) → (ℕ → ℕ → Bool) → Type 0
Neat slots bits = (i k : ℕ) → T (bits i k) → T (taken (slots i)) × T (taken (slots k))

pick_same : {A : Type 0} (n j : ℕ) (x y : A) → n ≡ j → cond (eqb n j) x y ≡ x
pick_same n j x y e = cond-true (eqb n j) x y (eq-eqb n j e)

pick_other : {A : Type 0} (n j : ℕ) (x y : A) → (n ≡ j → ⊥) → cond (eqb n j) x y ≡ y
pick_other n j x y e = cond-false (eqb n j) x y (ne_eqb n j e)

-- the book without a job; the arrows between the others are as A says
abbrev pub left_book : Model.Book → ℕ → (ℕ → ℕ → Bool) → Model.Book
left_book b n A = record {
  settings = b.settings;
  limit = b.limit;
  last = b.last;
  job = λ m. cond (eqb m n) None (b.job m);
  arrow = λ p q. not (eqb p n) && (not (eqb q n) && A p q);
}

-- the book with a job replaced, and an arrow to it from each job that M names
abbrev pub stepped_book : Model.Book → ℕ → Option Model.Job → (ℕ → Bool) → Model.Book
stepped_book b n J M = record {
  settings = b.settings;
  limit = b.limit;
  last = b.last;
  job = λ m. cond (eqb m n) J (b.job m);
  arrow = λ p q. b.arrow p q || (eqb q n && M p);
}

-- the book with one job more
abbrev pub joined_book : Model.Book → ℕ → ℕ → Option Model.Job → Model.Book
joined_book b n last J = record {
  settings = b.settings;
  limit = b.limit;
  last = last;
  job = λ m. cond (eqb m n) J (b.job m);
  arrow = b.arrow;
}

module _ (slots slots' : ℕ → Option Job) (bits bits' : ℕ → ℕ → Bool) (b : Model.Book) (S : Shows slots bits b)
    (k n : ℕ) (L : Lone slots n k) (j : Job) (at : slots k ≡ Some j) (num : j.number ≡ n) where
  pub number_at : (i : ℕ) (x : Job) → i ≡ k → slots i ≡ Some x → x.number ≡ n
  number_at i x e f = let g : slots k ≡ Some x = subst (λ m. slots m ≡ Some x) e f in let h : x ≡ j = cc in ap (λ (z : Job). z.number) h ∙ num

  pub same_test : (l : ℕ) (y : Job) → slots l ≡ Some y → eqb y.number n ≡ eqb l k
  same_test l y e = elim (cases_eq l k) [
    | inl f ↦ eq-eqb y.number n (number_at l y f e) ∙ sym (eq-eqb l k f)
    | inr f ↦ ne_eqb y.number n (λ g. f (L l y e g)) ∙ sym (ne_eqb l k f)
  ]

  -- the job leaves: the arrows that stay are as A says of numbers, and B of places
  pub left : Changed slots slots' k None → (A B : ℕ → ℕ → Bool)
      → ((i l : ℕ) (x y : Job) → slots i ≡ Some x → slots l ≡ Some y → A x.number y.number ≡ B i l)
      → ((p q : ℕ) → T (A p q) → T (Model.is_held b p) × T (Model.is_held b q))
      → ((p q : ℕ) → bits' p q ≡ (not (eqb p k) && (not (eqb q k) && B p q)))
      → Shows slots' bits' (left_book b n A)
  left C A B like ends gone = record {
    here = λ i x e. let o = old i x e in pick_other x.number n None (b.job x.number) o.2 ∙ S.here i x o.1;
    placed = λ m t. elim (cases_eq m n) [
      | inl e ↦ absurd (subst Held (pick_same m n None (b.job m) e) t)
      | inr ne ↦
          let r = S.placed m (subst Held (pick_other m n None (b.job m) ne) t) in
          (r.0, r.1, C.other r.0 (λ e. ne (sym r.3 ∙ number_at r.0 r.1 e r.2)) ∙ r.2, r.3)
    ];
    between = λ i l x y e f.
        let o = old i x e in
        let p = old l y f in
        ap₂ (λ u v. not u && (not v && A x.number y.number)) (ne_eqb x.number n o.2) (ne_eqb y.number n p.2)
        ∙ like i l x y o.1 p.1
        ∙ sym (gone i l ∙ ap₂ (λ u v. not u && (not v && B i l)) (ne_eqb i k o.0) (ne_eqb l k p.0));
    ends = λ p q t.
        let u : T (not (eqb q n) && A p q) = and_r (not (eqb p n)) _ t in
        let r = ends p q (and_r (not (eqb q n)) (A p q) u) in (
          subst Held (sym (pick_other p n None (b.job p) (apart_e p n (and_l _ _ t)))) r.0,
          subst Held (sym (pick_other q n None (b.job q) (apart_e q n (and_l _ (A p q) u)))) r.1,
        );
  }
    where
      old : (i : ℕ) (x : Job) → slots' i ≡ Some x → (i ≡ k → ⊥) × (slots i ≡ Some x) × (x.number ≡ n → ⊥)
      old i x e =
          let ne : i ≡ k → ⊥ = λ f. let g : slots' k ≡ Some x = subst (λ m. slots' m ≡ Some x) f e in let c : slots' k ≡ None = C.same in let z : ◌≡◌ {A = ℕ} 0 1 = cc in omega arith in
          let s : slots i ≡ Some x = sym (C.other i ne) ∙ e in
          (ne, s, λ f. ne (L i x s f))

  -- the job is replaced by one of the same number, with arrows to it from the jobs that M says of numbers, and mask of places
  pub replaced : (j' : Job) → Changed slots slots' k (Some j') → j'.number ≡ n → (J : Option Model.Job) → J ≡ Some (content j') → (M mask : ℕ → Bool)
      → ((i : ℕ) (x : Job) → slots i ≡ Some x → M x.number ≡ mask i)
      → ((p : ℕ) → T (M p) → T (Model.is_held b p))
      → ((p q : ℕ) → bits' p q ≡ (bits p q || (eqb q k && mask p)))
      → Shows slots' bits' (stepped_book b n J M)
  replaced j' C num' J is M mask like from_held more = record {
    here = λ i x e. elim (cases_eq i k) [
      | inl f ↦
          let h : j' ≡ x = new i x f e in
          subst (λ (z : Job). cond (eqb z.number n) J (b.job z.number) ≡ Some (content z)) h (pick_same j'.number n J (b.job j'.number) num' ∙ is)
      | inr f ↦
          let s : slots i ≡ Some x = sym (C.other i f) ∙ e in
          pick_other x.number n J (b.job x.number) (λ g. f (L i x s g)) ∙ S.here i x s
    ];
    placed = λ m t. elim (cases_eq m n) [
      | inl e ↦ (k, j', C.same, num' ∙ sym e)
      | inr ne ↦
          let r = S.placed m (subst Held (pick_other m n J (b.job m) ne) t) in
          (r.0, r.1, C.other r.0 (λ e. ne (sym r.3 ∙ number_at r.0 r.1 e r.2)) ∙ r.2, r.3)
    ];
    between = λ i l x y e f.
        let o = old i x e in
        let u = old l y f in
        ap₂ ◌||◌
        (ap₂ b.arrow (sym o.2) (sym u.2) ∙ S.between i l o.0 u.0 o.1 u.1)
        (ap₂ ◌&&◌ (ap (λ m. eqb m n) (sym u.2) ∙ same_test l u.0 u.1) (ap M (sym o.2) ∙ like i o.0 o.1))
        ∙ sym (more i l);
    ends = λ p q t. elim (or_e (b.arrow p q) (eqb q n && M p) t) [
      | inl a ↦ let r = S.ends p q a in (still p r.0, still q r.1)
      | inr a ↦ (still p (from_held p (and_r (eqb q n) (M p) a)), now_held q (eqb→eq q n (and_l (eqb q n) (M p) a)))
    ];
  }
    where
      new : (i : ℕ) (x : Job) → i ≡ k → slots' i ≡ Some x → j' ≡ x
      new i x f e = let g : slots' k ≡ Some x = subst (λ m. slots' m ≡ Some x) f e in let c : slots' k ≡ Some j' = C.same in cc

      old : (i : ℕ) (x : Job) → slots' i ≡ Some x → (z : Job) × (slots i ≡ Some z) × (z.number ≡ x.number)
      old i x e = elim (cases_eq i k) [
        | inl f ↦ (j, ap slots f ∙ at, num ∙ sym num' ∙ ap (λ (z : Job). z.number) (new i x f e))
        | inr f ↦ (x, sym (C.other i f) ∙ e, refl)
      ]

      now_held : (m : ℕ) → m ≡ n → Held (cond (eqb m n) J (b.job m))
      now_held m e = subst Held (sym (pick_same m n J (b.job m) e ∙ is)) tt

      still : (m : ℕ) → T (Model.is_held b m) → Held (cond (eqb m n) J (b.job m))
      still m t = elim (cases_eq m n) [ inl e ↦ now_held m e | inr e ↦ subst Held (sym (pick_other m n J (b.job m) e)) t ]

-- a job takes a free place
module _ (slots slots' : ℕ → Option Job) (bits bits' : ℕ → ℕ → Bool) (b : Model.Book) (S : Shows slots bits b) (k n : ℕ) (free : slots k ≡ None) (fresh : T (Model.is_held b n) → ⊥)
    (neat : Neat slots bits) (kept : (p q : ℕ) → bits' p q ≡ bits p q) where
  pub joined_in : (j' : Job) → Changed slots slots' k (Some j') → j'.number ≡ n → (J : Option Model.Job) → J ≡ Some (content j') → (last : ℕ)
      → Shows slots' bits' (joined_book b n last J)
  joined_in j' C num' J is last = record {
    here = λ i x e. elim (cases_eq i k) [
      | inl f ↦
          let h : j' ≡ x = new i x f e in
          subst (λ (z : Job). cond (eqb z.number n) J (b.job z.number) ≡ Some (content z)) h (pick_same j'.number n J (b.job j'.number) num' ∙ is)
      | inr f ↦
          let s : slots i ≡ Some x = sym (C.other i f) ∙ e in
          pick_other x.number n J (b.job x.number) (λ g. fresh (held_at i x s g)) ∙ S.here i x s
    ];
    placed = λ m t. elim (cases_eq m n) [
      | inl e ↦ (k, j', C.same, num' ∙ sym e)
      | inr ne ↦
          let r = S.placed m (subst Held (pick_other m n J (b.job m) ne) t) in
          (r.0, r.1, C.other r.0 (λ e. filled r.0 r.1 e r.2) ∙ r.2, r.3)
    ];
    between = λ i l x y e f. elim (cases_eq i k) [
      | inl g ↦
          T_false (b.arrow x.number y.number) (λ a. fresh (subst (λ m. T (Model.is_held b m)) (ap (λ (z : Job). z.number) (sym (new i x g e)) ∙ num') (S.ends x.number y.number a).0))
          ∙ sym (no_bit i l (λ a. subst (λ o. T (taken o)) (ap slots g ∙ free) (neat i l a).0))
      | inr g ↦ elim (cases_eq l k) [
        | inl h ↦
            T_false (b.arrow x.number y.number) (λ a. fresh (subst (λ m. T (Model.is_held b m)) (ap (λ (z : Job). z.number) (sym (new l y h f)) ∙ num') (S.ends x.number y.number a).1))
            ∙ sym (no_bit i l (λ a. subst (λ o. T (taken o)) (ap slots h ∙ free) (neat i l a).1))
        | inr h ↦ S.between i l x y (sym (C.other i g) ∙ e) (sym (C.other l h) ∙ f) ∙ sym (kept i l)
      ]
    ];
    ends = λ p q t. let r = S.ends p q t in (still p r.0, still q r.1);
  }
    where
      new : (i : ℕ) (x : Job) → i ≡ k → slots' i ≡ Some x → j' ≡ x
      new i x f e = let g : slots' k ≡ Some x = subst (λ m. slots' m ≡ Some x) f e in let c : slots' k ≡ Some j' = C.same in cc

      held_at : (i : ℕ) (x : Job) → slots i ≡ Some x → x.number ≡ n → T (Model.is_held b n)
      held_at i x e f = subst (λ m. T (Model.is_held b m)) f (subst Held (sym (S.here i x e)) tt)

      filled : (i : ℕ) (x : Job) → i ≡ k → slots i ≡ Some x → ⊥
      filled i x e f = let g : slots k ≡ Some x = subst (λ m. slots m ≡ Some x) e f in let z : ◌≡◌ {A = ℕ} 0 1 = cc in omega arith

      no_bit : (i l : ℕ) → (T (bits i l) → ⊥) → bits' i l ≡ false
      no_bit i l f = kept i l ∙ T_false (bits i l) f

      still : (m : ℕ) → T (Model.is_held b m) → Held (cond (eqb m n) J (b.job m))
      still m t = elim (cases_eq m n) [ inl e ↦ absurd (fresh (subst (λ z. T (Model.is_held b z)) e t)) | inr e ↦ subst Held (sym (pick_other m n J (b.job m) e)) t ]
