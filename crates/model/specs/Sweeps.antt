-- Sweeps: forgetting one job after another, under a policy.
use Rattle.std.specs.Prelude.{◌≡◌, ℕ, zero, suc, ◌+◌, ◌≤◌, Bool, T, List, [], ◌∷◌, length, Some, None}
use Rattle.model.specs.Book.{Book, places, held, forgotten}
use Rattle.model.specs.Forgetting.{may_forget}
use Rattle.model.specs.Possible.{Possible}
use Rattle.model.specs.Policies.{Policy, Lawful}

-- jobs are forgotten in turn, each at a moment when it may be
pub data Sweeps : Book → List ℕ → Book → Type 0 where
  none_more : {b : Book} → Sweeps b [] b
  then_more : {b c : Book} {n : ℕ} {ns : List ℕ} → T (may_forget b n) → Sweeps (forgotten b n) ns c → Sweeps b (n ∷ ns) c

-- and under a policy that is thorough no job is left that may be forgotten
abbrev pub Swept : Bool → Book → List ℕ → Book → Type 0
Swept thorough b ns c = Sweeps b ns c × (T thorough → (n : ℕ) → T (may_forget c n) → ⊥)

module _ {S : Type 0} (p : Policy S) where
  -- asking, and forgetting what is answered, until none is answered, or so many questions were asked:
  -- the jobs forgotten, the count and the book that are left
  unfoldable pub sweep_from : ℕ → S → Book → List ℕ × S × Book
  sweep_from zero s b = ([], s, b)
  sweep_from (suc fuel) s b =
      let more = λ (n : ℕ). sweep_from fuel (p.next s b) (forgotten b n) in
      elim (p.answer s b) [ None ↦ ([], p.next s b, b) | Some n ↦ (n ∷ (more n).0, (more n).1, (more n).2) ]

  -- a sweep: one question more than a book can hold jobs always suffices. What it forgot, in turn
  abbrev pub sweep_forgets : S → Book → List ℕ
  sweep_forgets s b = (sweep_from (places + 1) s b).0

  -- the count of the policy then
  abbrev pub sweep_next : S → Book → S
  sweep_next s b = (sweep_from (places + 1) s b).1

  -- the book then
  abbrev pub sweep_book : S → Book → Book
  sweep_book s b = (sweep_from (places + 1) s b).2

  -- how many jobs it forgot
  abbrev pub sweep_answer : S → Book → ℕ
  sweep_answer s b = length (sweep_forgets s b)

  -- the questions of a sweep and their answers, each asked with a book that can exist; the last is answered none
  pub data Asked : S → Book → List ℕ → S → Book → Type 0 where
    none_named : {s : S} {b : Book} → Possible b → p.answer s b ≡ None → Asked s b [] (p.next s b) b
    one_named : {s t : S} {b c : Book} {n : ℕ} {ns : List ℕ}
        → Possible b → p.answer s b ≡ Some n → Asked (p.next s b) (forgotten b n) ns t c → Asked s b (n ∷ ns) t c

  -- what a sweep from a count and a book does
  pub record SweepExact (s : S) (b : Book) : Type 0 where
    -- it asks until the policy answers none
    pub asked : Asked s b (sweep_forgets s b) (sweep_next s b) (sweep_book s b)
    -- each job forgotten could be at that moment, and a thorough policy leaves none
    pub swept : Swept (p.thorough s) b (sweep_forgets s b) (sweep_book s b)
    -- it forgets no more jobs than are held
    pub few : sweep_answer s b ≤ length (held b)
    -- it leads to a book that can exist
    pub possible : Possible (sweep_book s b)
    -- where the policy answers none it ends, and where it answers a job it goes on from the book without that job
    pub stops : p.answer s b ≡ None → (sweep_forgets s b ≡ []) × (sweep_next s b ≡ p.next s b) × (sweep_book s b ≡ b)
    pub goes_on : (n : ℕ) → p.answer s b ≡ Some n
        → (sweep_forgets s b ≡ n ∷ sweep_forgets (p.next s b) (forgotten b n))
        × (sweep_next s b ≡ sweep_next (p.next s b) (forgotten b n))
        × (sweep_book s b ≡ sweep_book (p.next s b) (forgotten b n))

-- every sweep under a lawful policy, with any count, on a book that can exist
abbrev pub EverySweepIsExact : Type 0 → Type 0
EverySweepIsExact S = (p : Policy S) → Lawful p → (s : S) (b : Book) → Possible b → SweepExact p s b
