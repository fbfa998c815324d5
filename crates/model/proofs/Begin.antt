-- What a begin does, under any policy.
use Rattle.std.proofs.Common.{◌≡◌, ℕ, ◌+◌, ◌≤◌, Bool, true, false, cond, not, ◌&&◌, T, eqb, List, [], length, Ok, Err, Result, sym, refl, ◌∙◌, subst, inl, inr, arith, le→leb, eqb→eq, leb→le}
use Rattle.std.proofs.lemmas.Bool.{cond-true, cond-false}
use Rattle.model.specs.declared.refusals.Refusal.{Refusal}
use Rattle.model.specs.declared.refusals.Refusal.TheVariants.{ActiveLimit, NumbersSpent, BookFull}
use Rattle.model.specs.Book.{Book, places, last_number, held, active}
use Rattle.model.specs.Possible.{Possible}
use Rattle.model.specs.Policies.{Policy, Lawful}
use Rattle.model.specs.Sweeps.{Sweeps, Swept, sweep_forgets, sweep_next, sweep_book}
use Rattle.model.specs.Sweeps.Sweeps.{none_more}
use Rattle.model.specs.Begin.{limit_reached, numbers_spent, is_full, begin_sweeps, with_new_job, begin_answer_on, begin_book_on, BeginSweep, begin_forgets, begin_next, begin_swept, begin_answer, BeginExact}
use Rattle.model.proofs.Tests.{and_l, and_r, and_i, decided, T_true, T_false}
use Rattle.model.proofs.Possible.{possible_new_job}
use Rattle.model.proofs.Sweeps.{swept_last, swept_limit, swept_possible, swept_fewer, swept_none, sweep_exact}
use Rattle.model.proofs.Answers.{BeginSaid, begin_said}

-- the sweep of a begin, if it makes one

sweep_cases : {Q : Type 0} (thorough : Bool) (b : Book) (ns : List ℕ) (c : Book) → BeginSweep thorough b ns c
    → (T (begin_sweeps b) → Swept thorough b ns c → Q) → ((T (begin_sweeps b) → ⊥) → ns ≡ [] → c ≡ b → Q) → Q
sweep_cases {Q} thorough b ns c w if-swept if-not = go (begin_sweeps b) w if-swept if-not
  where
    go : (v : Bool) → (elim v as (λ _. Type 0) [ true ↦ Swept thorough b ns c | false ↦ (ns ≡ []) × (c ≡ b) ]) → (T v → Swept thorough b ns c → Q)
        → ((T v → ⊥) → ns ≡ [] → c ≡ b → Q) → Q
    go true x f g = f tt x
    go false x f g = g (λ t. t) x.0 x.1

pub begin_swept_is : (thorough : Bool) (b : Book) (ns : List ℕ) (c : Book) → BeginSweep thorough b ns c → Sweeps b ns c
begin_swept_is thorough b ns c w = sweep_cases thorough b ns c w (λ t x. x.0)
    (λ f e d. subst (λ (ms : List ℕ). Sweeps b ms c) (sym e) (subst (Sweeps b []) (sym d) none_more))

sweeps_parts : (b : Book) → T (begin_sweeps b) → T (not (limit_reached b)) × T (not (numbers_spent b)) × T (is_full b)
sweeps_parts b t =
    let r = and_r (not (limit_reached b)) (not (numbers_spent b) && is_full b) t in
    (and_l (not (limit_reached b)) (not (numbers_spent b) && is_full b) t, and_l (not (numbers_spent b)) (is_full b) r, and_r (not (numbers_spent b)) (is_full b) r)

-- refusals of a begin

module _ (m : ℕ) where
  abbrev answer_by : Bool → Bool → Bool → Result ℕ Refusal
  answer_by x y z = cond x (Err ActiveLimit) (cond y (Err NumbersSpent) (cond z (Err BookFull) (Ok m)))

  past_two : (x y z : Bool) (r : Refusal) → T (not x) → T (not y) → answer_by x y z ≡ Err r → T z × (r ≡ BookFull)
  past_two true y z r p q e = absurd p
  past_two false true z r p q e = absurd q
  past_two false false true r p q e = (tt, cc)
  past_two false false false r p q e = let n : ◌≡◌ {A = ℕ} 0 1 = cc in absurd (omega arith)

  full_parts : (x y z : Bool) → answer_by x y z ≡ Err BookFull → T (not x) × T (not y) × T z
  full_parts true y z e = let n : ◌≡◌ {A = ℕ} 0 1 = cc in absurd (omega arith)
  full_parts false true z e = let n : ◌≡◌ {A = ℕ} 0 1 = cc in absurd (omega arith)
  full_parts false false true e = (tt, tt, tt)
  full_parts false false false e = let n : ◌≡◌ {A = ℕ} 0 1 = cc in absurd (omega arith)

module _ (thorough : Bool) (b : Book) (ns : List ℕ) (c : Book) (h : Possible b) (w : BeginSweep thorough b ns c) where
  -- refused, a begin has forgotten nothing
  pub refused_stands : (r : Refusal) → begin_answer_on b c ≡ Err r → (ns ≡ []) × (c ≡ b)
  refused_stands r e = sweep_cases thorough b ns c w
      (λ t x.
      let q = sweeps_parts b t in
      let full = (past_two (b.last + 1) (limit_reached b) (numbers_spent b) (is_full c) r q.0 q.1 e).0 in
      swept_none h x.0 (eqb→eq (length (held c)) places full ∙ sym (eqb→eq (length (held b)) places q.2)))
      (λ f e d. (e, d))

  -- refused for want of room, it has swept
  pub full_swept : begin_answer_on b c ≡ Err BookFull → Swept thorough b ns c
  full_swept e = sweep_cases thorough b ns c w (λ t x. x)
      (λ f i d.
      let q = full_parts (b.last + 1) (limit_reached b) (numbers_spent b) (is_full c) e in
      let full : T (is_full b) = subst (λ (x : Book). T (is_full x)) d q.2 in
      absurd (f (and_i (not (limit_reached b)) (not (numbers_spent b) && is_full b) q.0 (and_i (not (numbers_spent b)) (is_full b) q.1 full))))

  -- accepted, it finds a book with room for the new job
  pub begun_possible : (n : ℕ) → BeginSaid b c (Ok n) → Possible (with_new_job c)
  begun_possible n p =
      let s = begin_swept_is thorough b ns c w in
      possible_new_job c (swept_possible s h)
      (λ t. p.1 (le→leb b.limit (length (active b))
      (let few : length (active c) ≤ length (active b) = swept_fewer s (λ x. not x.finished) in let same : c.limit ≡ b.limit = swept_limit s in let l = leb→le c.limit (length (active c)) t in omega arith)))
      (λ t. p.2 (subst (λ (x : ℕ). T (eqb x last_number)) (swept_last s) t))
      p.3

  possible_begun : Possible (begin_book_on b c)
  possible_begun = go (begin_answer_on b c) (begin_said b c)
    where
      go : (x : Result ℕ Refusal) → BeginSaid b c x → Possible (elim x [ Ok n ↦ with_new_job c | Err r ↦ c ])
      go (Ok n) p = begun_possible n p
      go (Err r) p = swept_possible (begin_swept_is thorough b ns c w) h

-- the book after a begin, by its answer

pub refused_book : (c : Book) (x : Result ℕ Refusal) (r : Refusal) → x ≡ Err r → ◌≡◌ {A = Book} (elim x [ Ok n ↦ with_new_job c | Err r ↦ c ]) c
refused_book c (Ok n) r e = let z : ◌≡◌ {A = ℕ} 0 1 = cc in absurd (omega arith)
refused_book c (Err q) r e = refl

accepted_book : (c : Book) (x : Result ℕ Refusal) (n : ℕ) → x ≡ Ok n → ◌≡◌ {A = Book} (elim x [ Ok n ↦ with_new_job c | Err r ↦ c ]) (with_new_job c)
accepted_book c (Ok m) n e = refl
accepted_book c (Err q) n e = let z : ◌≡◌ {A = ℕ} 0 1 = cc in absurd (omega arith)

-- under a policy

module _ {S : Type 0} (p : Policy S) (lawful : Lawful p) (s : S) (b : Book) (h : Possible b) where
  pub swept_within : BeginSweep (p.thorough s) b (begin_forgets p s b) (begin_swept p s b)
  swept_within = go (begin_sweeps b)
    where
      go : (v : Bool) → (elim v as (λ _. Type 0) [
        | true ↦ Swept (p.thorough s) b (cond v (sweep_forgets p s b) []) (cond v (sweep_book p s b) b)
        | false ↦ (cond v (sweep_forgets p s b) [] ≡ []) × (cond v (sweep_book p s b) b ≡ b)
      ])
      go true = (sweep_exact p lawful s b h).swept
      go false = (refl, refl)

  sweeping : T (begin_sweeps b) → (begin_forgets p s b ≡ sweep_forgets p s b) × (begin_next p s b ≡ sweep_next p s b) × (begin_swept p s b ≡ sweep_book p s b)
  sweeping t = let e = T_true (begin_sweeps b) t in (cond-true _ _ _ e, cond-true _ _ _ e, cond-true _ _ _ e)

  unswept : (T (begin_sweeps b) → ⊥) → (begin_forgets p s b ≡ []) × (begin_next p s b ≡ s) × (begin_swept p s b ≡ b)
  unswept f = let e = T_false (begin_sweeps b) f in (cond-false _ _ _ e, cond-false _ _ _ e, cond-false _ _ _ e)

  unasked : (r : Refusal) → begin_answer p s b ≡ Err r → (r ≡ BookFull → ⊥) → begin_next p s b ≡ s
  unasked r e other = elim (decided (begin_sweeps b)) [
    | inl t ↦ let q = sweeps_parts b t in absurd (other (past_two (b.last + 1) (limit_reached b) (numbers_spent b) (is_full (begin_swept p s b)) r q.0 q.1 e).1)
    | inr f ↦ (unswept f).1
  ]

  pub begin_exact : BeginExact p s b
  begin_exact = record {
    sweeping = sweeping;
    unswept = unswept;
    swept = swept_within;
    refused = λ r e. let q = refused_stands (p.thorough s) b (begin_forgets p s b) (begin_swept p s b) h swept_within r e in
        (q.0, refused_book (begin_swept p s b) (begin_answer p s b) r e ∙ q.1);
    unasked = unasked;
    possible = possible_begun (p.thorough s) b (begin_forgets p s b) (begin_swept p s b) h swept_within;
    given = λ n e. ((subst (BeginSaid b (begin_swept p s b)) e (begin_said b (begin_swept p s b))).0, accepted_book (begin_swept p s b) (begin_answer p s b) n e);
  }
