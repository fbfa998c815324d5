-- Policies: which job to forget next.
use Rattle.std.specs.Prelude.{◌≡◌, ℕ, zero, suc, ◌+◌, ◌<◌, Bool, true, false, cond, not, ◌&&◌, ◌||◌, T, Some, None, Ok, Err, Option, Result, ◌==◌, nat_le}
use Rattle.model.specs.declared.refusals.Refusal.{Refusal}
use Rattle.model.specs.declared.refusals.Refusal.TheVariants.{SpacingZero}
use Rattle.model.specs.Lists.{some_of, each_of, first_of, below}
use Rattle.model.specs.Book.{Book, touched_by, written_by, active, finished, path}
use Rattle.model.specs.Forgetting.{may_forget}
use Rattle.model.specs.Possible.{Possible}

-- a policy keeps a count of type S; asked with a book, it answers a job to forget or none, and then has a next count
pub record Policy (S : Type 0) : Type 0 where
  pub answer : S → Book → Option ℕ
  pub next : S → Book → S
  -- it says of itself whether it is thorough
  pub thorough : S → Bool

-- what a policy must show, at every book that can exist
pub record Lawful {S : Type 0} (p : Policy S) : Type 0 where
  -- it answers only jobs that may be forgotten in the book as shown
  pub may_be : (s : S) (b : Book) (n : ℕ) → Possible b → p.answer s b ≡ Some n → T (may_forget b n)
  -- a thorough one answers none only when no job may be forgotten
  pub leaves_none : (s : S) (b : Book) → Possible b → T (p.thorough s) → p.answer s b ≡ None → (n : ℕ) → T (may_forget b n) → ⊥
  -- whether it is thorough never changes
  pub unchanged : (s : S) (b : Book) → Possible b → p.thorough (p.next s b) ≡ p.thorough s

-- q does what p does, whose count can be seen in the count of q; so a type of one's own can hold the count of a policy
pub record ActsAs {C S : Type 0} (seen : C → S) (p : Policy S) (q : Policy C) : Type 0 where
  pub answers : (c : C) (b : Book) → Possible b → q.answer c b ≡ p.answer (seen c) b
  pub goes_on : (c : C) (b : Book) → Possible b → seen (q.next c b) ≡ p.next (seen c) b
  pub as_thorough : (c : C) → q.thorough c ≡ p.thorough (seen c)

-- policies that count nothing

-- by its answer, and whether it is thorough
abbrev pub uncounted : (Book → Option ℕ) → Bool → Policy (Unit {0})
uncounted answer thorough = record { answer = λ s b. answer b; next = λ s b. s; thorough = λ s. thorough }

-- none, always
abbrev pub never : Policy (Unit {0})
never = uncounted (λ b. None) false

-- no path leads from an active job to n
abbrev pub unreached : Book → ℕ → Bool
unreached b n = not (some_of (λ j. path b j n) (active b))

-- the smallest finished job that no active job reaches
abbrev pub clear : Policy (Unit {0})
clear = uncounted (λ b. first_of (unreached b) (finished b)) false

-- each setting that n touched was written by a finished job at the head of an arrow from n
abbrev pub overwritten : Book → ℕ → Bool
overwritten b n = each_of (λ e. not (touched_by b n e) || some_of (λ k. b.arrow n k && written_by b k e) (finished b)) (below b.settings)

-- the smallest finished job that is overwritten
abbrev pub stale : Policy (Unit {0})
stale = uncounted (λ b. first_of (overwritten b) (finished b)) false

-- the smallest job that may be forgotten; it alone of the four is thorough
abbrev pub thorough_one : Policy (Unit {0})
thorough_one = uncounted (λ b. first_of (may_forget b) (finished b)) true

-- policies made of others

-- the second is asked only where the first answers none; thorough if either is
abbrev pub pile : {S R : Type 0} → Policy S → Policy R → Policy (S × R)
pile p q = record {
  answer = λ s b. elim (p.answer s.0 b) [ Some n ↦ Some n | None ↦ q.answer s.1 b ];
  next = λ s b. (p.next s.0 b, elim (p.answer s.0 b) [ Some n ↦ s.1 | None ↦ q.next s.1 b ]);
  thorough = λ s. p.thorough s.0 || q.thorough s.1;
}

-- the count of a spaced policy: it passes on the last of every so many questions
pub record Spacing (S : Type 0) : Type 0 where
  pub every : ℕ
  pub kept : ℕ  -- how many questions it has kept since it passed one on
  pub under : S  -- the count of the policy that it passes them to

-- its making: it cannot pass on every 0th question
abbrev pub spacing : {S : Type 0} → ℕ → S → Result (Spacing S) Refusal
spacing k s = cond (k == 0) (Err SpacingZero) (Ok (record { every = k; kept = 0; under = s }))

-- the next question is passed on
abbrev pub passes_on : {S : Type 0} → Spacing S → Bool
passes_on c = nat_le c.every (c.kept + 1)

-- a question that is kept is answered none; thorough only if none is kept and the policy under it is
abbrev pub spaced : {S : Type 0} → Policy S → Policy (Spacing S)
spaced p = record {
  answer = λ c b. cond (passes_on c) (p.answer c.under b) None;
  next = λ c b.
      cond (passes_on c)
      (record { every = c.every; kept = 0; under = p.next c.under b })
      (record { every = c.every; kept = c.kept + 1; under = c.under });
  thorough = λ c. (c.every == 1) && p.thorough c.under;
}

-- the count after the first i of questions, asked with one book after another
abbrev pub count_after : {S : Type 0} → Policy S → S → (ℕ → Book) → ℕ → S
count_after p s books zero = s
count_after p s books (suc i) = p.next (count_after p s books i) (books i)

-- of a spaced policy just made, as of one that has just passed a question on
pub record SpacedExact {S : Type 0} (p : Policy S) (k : ℕ) (s : S) (c : Spacing S) (books : ℕ → Book) : Type 0 where
  -- the first k - 1 questions are answered none
  pub keeps : (i : ℕ) → i + 1 < k → (spaced p).answer (count_after (spaced p) c books i) (books i) ≡ None
  -- the k-th is passed on
  pub passes : (i : ℕ) → i + 1 ≡ k → (spaced p).answer (count_after (spaced p) c books i) (books i) ≡ p.answer s (books i)
  -- and then the count is one just made, of the policy under it with its next count
  pub starts_again : (i : ℕ) → i + 1 ≡ k → spacing k (p.next s (books i)) ≡ Ok (count_after (spaced p) c books k)

-- the statements

-- from every making that is accepted, whatever the books that it is asked with
abbrev pub EverySpacedPolicyIsExact : Type 0 → Type 0
EverySpacedPolicyIsExact S = (p : Policy S) (k : ℕ) (s : S) (c : Spacing S) → spacing k s ≡ Ok c → (books : ℕ → Book) → SpacedExact p k s c books

-- a pile of two lawful policies
abbrev pub EveryPileIsLawful : Type 0 → Type 0 → Type 0
EveryPileIsLawful S R = (p : Policy S) (q : Policy R) → Lawful p → Lawful q → Lawful (pile p q)

-- a lawful policy, spaced
abbrev pub EverySpacedPolicyIsLawful : Type 0 → Type 0
EverySpacedPolicyIsLawful S = (p : Policy S) → Lawful p → Lawful (spaced p)

-- a policy that does what a lawful one does
abbrev pub ActingAsALawfulPolicyIsLawful : Type 0 → Type 0 → Type 0
ActingAsALawfulPolicyIsLawful C S = (seen : C → S) (p : Policy S) (q : Policy C) → Lawful p → ActsAs seen p q → Lawful q
