-- A table of places and a book of the model that says the same; a table shows one book at most.
use Rattle.std.proofs.Common.{◌≡◌, ℕ, Bool, true, false, T, Some, None, Option, sym, refl, ap, ◌∙◌, subst, ap₂}
use Rattle.model.specs.Book as Model
use Rattle.table.specs.declared.jobs.Job.{Job}
use Rattle.table.specs.declared.tables.Table.{Table}
use Rattle.table.specs.Slots.{slot, bit}
use Rattle.book.specs.View.{content, found, shown, job_of, arrow_of, view, Apart}
use Rattle.book.proofs.Founds.{found_some, found_at, numbered_job}

-- the book says of each number what the place that holds it says
pub record Shows (slots : ℕ → Option Job) (bits : ℕ → ℕ → Bool) (b : Model.Book) : Type 0 where
  pub here : (i : ℕ) (j : Job) → slots i ≡ Some j → b.job j.number ≡ Some (content j)
  pub placed : (n : ℕ) → T (Model.is_held b n) → (i : ℕ) × (j : Job) × (slots i ≡ Some j) × (j.number ≡ n)
  pub between : (i k : ℕ) (j l : Job) → slots i ≡ Some j → slots k ≡ Some l → b.arrow j.number l.number ≡ bits i k
  pub ends : (p q : ℕ) → T (b.arrow p q) → T (Model.is_held b p) × T (Model.is_held b q)

abbrev pub Held : Option Model.Job → Type 0
Held o = T (Model.holds (λ j. true) o)

both : (x y : Bool) → (T x → x ≡ y) → (T y → x ≡ y) → x ≡ y
both true y f g = f tt
both false true f g = g tt
both false false f g = refl

same_option : (o o' : Option Model.Job) → (Held o → o ≡ o') → (Held o' → o ≡ o') → o ≡ o'
same_option (Some x) o' f g = f tt
same_option None (Some y) f g = g tt
same_option None None f g = refl

module _ (slots : ℕ → Option Job) (bits : ℕ → ℕ → Bool) (b c : Model.Book) (B : Shows slots bits b) (C : Shows slots bits c) where
  same_at : (n i : ℕ) (j : Job) → slots i ≡ Some j → j.number ≡ n → b.job n ≡ c.job n
  same_at n i j e f = subst (λ m. b.job m ≡ c.job m) f (B.here i j e ∙ sym (C.here i j e))

  same_job : (n : ℕ) → b.job n ≡ c.job n
  same_job n = same_option (b.job n) (c.job n)
      (λ t. let r = B.placed n t in same_at n r.0 r.1 r.2 r.3)
      (λ t. let r = C.placed n t in same_at n r.0 r.1 r.2 r.3)

  same_between : (p q i k : ℕ) (j l : Job) → slots i ≡ Some j → j.number ≡ p → slots k ≡ Some l → l.number ≡ q → b.arrow p q ≡ c.arrow p q
  same_between p q i k j l e f g h =
      subst (λ m. b.arrow p m ≡ c.arrow p m) h (subst (λ m. b.arrow m l.number ≡ c.arrow m l.number) f (B.between i k j l e g ∙ sym (C.between i k j l e g)))

  same_arrow : (p q : ℕ) → b.arrow p q ≡ c.arrow p q
  same_arrow p q = both (b.arrow p q) (c.arrow p q)
      (λ t. let e = B.ends p q t in let r = B.placed p e.0 in let s = B.placed q e.1 in same_between p q r.0 s.0 r.1 s.1 r.2 r.3 s.2 s.3)
      (λ t. let e = C.ends p q t in let r = C.placed p e.0 in let s = C.placed q e.1 in same_between p q r.0 s.0 r.1 s.1 r.2 r.3 s.2 s.3)

  pub one_book : b.settings ≡ c.settings → b.limit ≡ c.limit → b.last ≡ c.last → b ≡ c
  one_book s l n = λ i. record { settings = s i; limit = l i; last = n i; job = λ m. same_job m i; arrow = λ p q. same_arrow p q i }

-- the book that a table shows
module _ (settings limit last : ℕ) (t : Table) where
  found_held : (n i : ℕ) → found (slot t) n ≡ Some i → T (Model.is_held (view settings limit last t) n)
  found_held n i e =
      let r = numbered_job n (slot t i) (found_some (slot t) n i e) in
      subst (λ o. Held (job_of (slot t) o)) (sym e) (subst (λ o. Held (shown o)) (sym r.1) tt)

  pub view_shows : Apart t → Shows (slot t) (bit t) (view settings limit last t)
  view_shows A = record {
    here = λ i j e. ap (job_of (slot t)) (found_at t A i j e) ∙ ap shown e;
    placed = λ n h. from_held n (found (slot t) n) refl h;
    between = λ i k j l e f. ap₂ (arrow_of (bit t)) (found_at t A i j e) (found_at t A k l f);
    ends = λ p q h. both_found p q (found (slot t) p) (found (slot t) q) refl refl h;
  }
    where
      from_held : (n : ℕ) (o : Option ℕ) → found (slot t) n ≡ o → Held (job_of (slot t) o) → (i : ℕ) × (j : Job) × (slot t i ≡ Some j) × (j.number ≡ n)
      from_held n None e h = absurd h
      from_held n (Some i) e h = let r = numbered_job n (slot t i) (found_some (slot t) n i e) in (i, r.0, r.1, r.2)

      both_found : (p q : ℕ) (o o' : Option ℕ) → found (slot t) p ≡ o → found (slot t) q ≡ o' → T (arrow_of (bit t) o o')
          → T (Model.is_held (view settings limit last t) p) × T (Model.is_held (view settings limit last t) q)
      both_found p q None o' e f h = absurd h
      both_found p q (Some i) None e f h = absurd h
      both_found p q (Some i) (Some k) e f h = (found_held p i e, found_held q k f)
