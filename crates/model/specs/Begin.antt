-- Beginning a job, under a policy.
use Rattle.std.specs.Prelude.{◌≡◌, ℕ, ◌+◌, Bool, true, false, cond, not, ◌&&◌, T, List, [], length, Some, Ok, Err, Result, ◌==◌, ◌≢◌, nat_le}
use Rattle.model.specs.declared.refusals.Refusal.{Refusal}
use Rattle.model.specs.declared.refusals.Refusal.TheVariants.{ActiveLimit, NumbersSpent, BookFull}
use Rattle.model.specs.Book.{Job, Book, places, last_number, held, active}
use Rattle.model.specs.Possible.{Possible}
use Rattle.model.specs.Policies.{Policy, Lawful}
use Rattle.model.specs.Sweeps.{Swept, sweep_forgets, sweep_next, sweep_book}

-- as many jobs are active as may be
abbrev pub limit_reached : Book → Bool
limit_reached b = nat_le b.limit (length (active b))

-- the last number has been given
abbrev pub numbers_spent : Book → Bool
numbers_spent b = b.last == last_number

-- every place is taken
abbrev pub is_full : Book → Bool
is_full b = length (held b) == places

-- a begin sweeps exactly when its first two checks are passed and every place is taken
abbrev pub begin_sweeps : Book → Bool
begin_sweeps b = not (limit_reached b) && (not (numbers_spent b) && is_full b)

-- an active job that has touched nothing
abbrev pub new_job : Job
new_job = record { finished = false; has_read = λ e. false; has_written = λ e. false }

-- the next number is given to a new job, without arrows
abbrev pub with_new_job : Book → Book
with_new_job b = record {
  settings = b.settings;
  limit = b.limit;
  last = b.last + 1;
  job = λ m. cond (m == b.last + 1) (Some new_job) (b.job m);
  arrow = b.arrow;
}

-- the answer to a begin on the book b, where c is the book after its own sweep, or b where it makes none
abbrev pub begin_answer_on : Book → Book → Result ℕ Refusal
begin_answer_on b c =
    cond (limit_reached b) (Err ActiveLimit) (cond (numbers_spent b) (Err NumbersSpent) (cond (is_full c) (Err BookFull) (Ok (b.last + 1))))

-- and the book
abbrev pub begin_book_on : Book → Book → Book
begin_book_on b c = elim (begin_answer_on b c) [ Ok n ↦ with_new_job c | Err r ↦ c ]

-- c is the book after the sweep that a begin makes of its own, if it makes one; ns is what that sweep forgot
abbrev pub BeginSweep : Bool → Book → List ℕ → Book → Type 0
BeginSweep thorough b ns c = elim (begin_sweeps b) [ true ↦ Swept thorough b ns c | false ↦ (ns ≡ []) × (c ≡ b) ]

module _ {S : Type 0} (p : Policy S) (s : S) (b : Book) where
  -- what its own sweep forgot
  abbrev pub begin_forgets : List ℕ
  begin_forgets = cond (begin_sweeps b) (sweep_forgets p s b) []

  -- the count of the policy then
  abbrev pub begin_next : S
  begin_next = cond (begin_sweeps b) (sweep_next p s b) s

  -- the book that the sweep left
  abbrev pub begin_swept : Book
  begin_swept = cond (begin_sweeps b) (sweep_book p s b) b

  -- the number of the new job, or the refusal
  abbrev pub begin_answer : Result ℕ Refusal
  begin_answer = begin_answer_on b begin_swept

  -- the book then
  abbrev pub begin_book : Book
  begin_book = begin_book_on b begin_swept

  -- what a begin does
  pub record BeginExact : Type 0 where
    -- where it sweeps, it does what a sweep under the policy does
    pub sweeping : T (begin_sweeps b) → (begin_forgets ≡ sweep_forgets p s b) × (begin_next ≡ sweep_next p s b) × (begin_swept ≡ sweep_book p s b)
    -- where it does not, the count stands and nothing is forgotten
    pub unswept : (T (begin_sweeps b) → ⊥) → (begin_forgets ≡ []) × (begin_next ≡ s) × (begin_swept ≡ b)
    -- each job forgotten could be at that moment, and a thorough policy leaves none
    pub swept : BeginSweep (p.thorough s) b begin_forgets begin_swept
    -- refused, it has forgotten nothing and the book is as it was
    pub refused : (r : Refusal) → begin_answer ≡ Err r → (begin_forgets ≡ []) × (begin_book ≡ b)
    -- refused for anything but want of room, it has not asked the policy
    pub unasked : (r : Refusal) → begin_answer ≡ Err r → (r ≢ BookFull) → begin_next ≡ s
    -- it leads to a book that can exist
    pub possible : Possible begin_book
    -- accepted, it gives the next number to a new job
    pub given : (n : ℕ) → begin_answer ≡ Ok n → (n ≡ b.last + 1) × (begin_book ≡ with_new_job begin_swept)

-- every begin under a lawful policy, with any count, on a book that can exist
abbrev pub EveryBeginIsExact : Type 0 → Type 0
EveryBeginIsExact S = (p : Policy S) → Lawful p → (s : S) (b : Book) → Possible b → BeginExact p s b
