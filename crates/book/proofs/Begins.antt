-- What a begin answers and leaves, from what the code has seen.
use Rattle.std.proofs.Common.{◌≡◌, ℕ, ◌+◌, ◌<◌, ◌≤◌, Bool, true, false, cond, not, eqb, length, Ok, Err, Result, sym, refl, ap, ◌∙◌, arith}
use Rattle.std.proofs.lemmas.Bool.{cond-true, cond-false, leb-false, lt-leb}
use Rattle.model.specs.declared.refusals.Refusal.{Refusal}
use Rattle.model.specs.declared.refusals.Refusal.TheVariants.{BookFull}
use Rattle.model.specs.Book.{Book, active, last_number}
use Rattle.model.specs.Possible.{Possible}
use Rattle.model.specs.Policies.{Policy, Lawful}
use Rattle.model.specs.Sweeps.{sweep_next, sweep_book}
use Rattle.model.specs.Begin.{limit_reached, numbers_spent, is_full, begin_sweeps, with_new_job, begin_answer_on, begin_book_on, begin_next, begin_swept, begin_answer, begin_book}
use Rattle.model.proofs.Sweeps.{sweep_exact, swept_fewer, swept_limit, swept_last}

module _ {S : Type 0} (p : Policy S) (lawful : Lawful p) (s : S) (b : Book) (h : Possible b)
    (few : limit_reached b ≡ false) (left : numbers_spent b ≡ false) where
  -- what is known when the job is to be entered
  pub record Ready (t : S) (c : Book) : Type 0 where
    pub next : t ≡ begin_next p s b
    pub swept : c ≡ begin_swept p s b
    pub still_few : limit_reached c ≡ false
    pub still_left : numbers_spent c ≡ false
    pub same_last : c.last ≡ b.last

  sweeps_if : (v : Bool) → is_full b ≡ v → begin_sweeps b ≡ v
  sweeps_if v e = rw (few, left, e) refl

  pub unswept : is_full b ≡ false → Ready s b
  unswept e = record {
    next = sym (cond-false _ _ _ (sweeps_if false e));
    swept = sym (cond-false _ _ _ (sweeps_if false e));
    still_few = few;
    still_left = left;
    same_last = refl;
  }

  pub swept_first : is_full b ≡ true → (t : S) (c : Book) → t ≡ sweep_next p s b → c ≡ sweep_book p s b → Ready t c
  swept_first e t c i j =
      let w = (sweep_exact p lawful s b h).swept.0 in
      let fewer : length (active (sweep_book p s b)) ≤ length (active b) = swept_fewer w (λ x. not x.finished) in
      let same : (sweep_book p s b).limit ≡ b.limit = swept_limit w in
      let room : length (active b) < b.limit = leb-false b.limit (length (active b)) few in
      let last : (sweep_book p s b).last ≡ b.last = swept_last w in
      record {
        next = i ∙ sym (cond-true _ _ _ (sweeps_if true e));
        swept = j ∙ sym (cond-true _ _ _ (sweeps_if true e));
        still_few = ap limit_reached j ∙ lt-leb (sweep_book p s b).limit (length (active (sweep_book p s b))) (omega arith);
        still_left = ap numbers_spent j ∙ ap (λ (n : ℕ). eqb n last_number) last ∙ left;
        same_last = ap (λ (x : Book). x.last) j ∙ last;
      }

  abbrev entered : Book → Result ℕ Refusal → Book
  entered c (Ok n) = with_new_job c
  entered c (Err r) = c

  answer_on : (c : Book) → begin_answer_on b c ≡ cond (is_full c) (Err BookFull) (Ok (b.last + 1))
  answer_on c = rw (few, left, begin_answer_on) refl

  book_on : (c : Book) (v : Bool) (n : ℕ) → entered c (cond v (Err BookFull) (Ok n)) ≡ cond v c (with_new_job c)
  book_on c true n = refl
  book_on c false n = refl

  entered_is : (c : Book) (r : Result ℕ Refusal) → ◌≡◌ {A = Book} (elim r [ Ok n ↦ with_new_job c | Err x ↦ c ]) (entered c r)
  entered_is c (Ok n) = refl
  entered_is c (Err x) = refl

  module _ (t : S) (c : Book) (R : Ready t c) where
    pub begun_answer : (r : Result ℕ Refusal) → r ≡ cond (is_full c) (Err BookFull) (Ok (c.last + 1)) → r ≡ begin_answer p s b
    begun_answer r e =
        e ∙ ap (λ (n : ℕ). cond (is_full c) (Err BookFull) (Ok (n + 1))) R.same_last ∙ sym (answer_on c) ∙ ap (begin_answer_on b) R.swept

    pub begun_book : (d : Book) → d ≡ cond (is_full c) c (with_new_job c) → d ≡ begin_book p s b
    begun_book d e =
        e ∙ sym (book_on c (is_full c) (b.last + 1)) ∙ ap (entered c) (sym (answer_on c)) ∙ sym (entered_is c (begin_answer_on b c)) ∙ ap (begin_book_on b) R.swept
