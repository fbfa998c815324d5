-- Scripts: an opening and the calls that follow, each with the answer that it gets.
use Rattle.std.specs.Prelude.{ℕ, Bool, false, cond, List, [], ◌∷◌, replicate, Some, None, Ok, Err, Option, Result}
use Rattle.std.proofs.Common.{lit≤, lit<}
use Rattle.model.specs.declared.refusals.Refusal.{Refusal}
use Rattle.model.specs.Refusals.{refusal_says}
use Rattle.model.specs.Lists.{map_list}
use Rattle.model.specs.Kinds.{Kind}
use Rattle.model.specs.Book.{Book}
use Rattle.model.specs.Forgetting.{may_forget}
use Rattle.model.specs.Calls.{opened, read_answer, read_book, write_answer, write_book, write_row, withdraw_answer, withdraw_book}
use Rattle.model.specs.Policies.{Policy, uncounted, spacing}
use Rattle.model.specs.Sweeps.{sweep_answer, sweep_next, sweep_book}
use Rattle.model.specs.Begin.{begin_answer, begin_next, begin_book}
use Rattle.model.specs.Blocker.{blocker}
use Rattle.values.specs.declared.levels.Level.{Level}
use Rattle.values.specs.declared.plans.Plan.{Plan}
use Rattle.values.specs.Levels.{level_kind}
use Rattle.values.specs.Plans.{plan_kind}
use Rattle.policies.specs.declared.plain.Never.{Never}
use Rattle.policies.specs.declared.plain.Clear.{Clear}
use Rattle.policies.specs.declared.plain.Stale.{Stale}
use Rattle.policies.specs.declared.plain.Thorough.{Thorough}
use Rattle.policies.specs.declared.piles.Pile.{Pile}
use Rattle.policies.specs.declared.spaced.Spaced.{Spaced}
use Rattle.policies.specs.Doing.{never_does, clear_does, stale_does, thorough_does}
use Rattle.policies.specs.Made.{pile_does, spaced_does, as_struct}

-- policies

-- a policy that is lent to begins and sweeps: its value, of the type that it has in programs
pub data Lent : Type 0 where
  a_never : Never → Lent
  a_clear : Clear → Lent
  a_stale : Stale → Lent
  a_thorough : Thorough → Lent
  a_pile : Pile Clear Stale → Lent
  a_spaced : Spaced Thorough → Lent
  only : ℕ → Lent  -- for the scripts alone: it answers this job, where it may be forgotten

abbrev pub only_does : ℕ → Policy (Unit {0})
only_does n = uncounted (λ b. cond (may_forget b n) (Some n) None) false

-- what is made of what a lent policy does and of its value; the last argument says how a value is lent again
abbrev pub lending : {A : Type 0} → Lent → ((S : Type 0) → Policy S → S → (S → Lent) → A) → A
lending (a_never s) f = f Never never_does s a_never
lending (a_clear s) f = f Clear clear_does s a_clear
lending (a_stale s) f = f Stale stale_does s a_stale
lending (a_thorough s) f = f Thorough thorough_does s a_thorough
lending (a_pile s) f = f (Pile Clear Stale) (pile_does clear_does stale_does) s a_pile
lending (a_spaced s) f = f (Spaced Thorough) (spaced_does thorough_does) s a_spaced
lending (only n) f = f (Unit {0}) (only_does n) tt (λ t. only n)

-- a new policy that passes every k-th question on to a thorough one, where it can be made
abbrev pub new_spaced : ℕ → Result Lent Refusal
new_spaced k = elim (spacing {S = Thorough} k (record {})) [ Ok c ↦ Ok (a_spaced (as_struct c)) | Err r ↦ Err r ]

-- calls and answers

pub data Call : Type 0 where
  lend : Result Lent Refusal → Call  -- a policy is made; where it can be, it is lent to the begins and sweeps that follow
  begin : Call
  read : (job setting : ℕ) → Call
  write : (job : ℕ) (order : List ℕ) → Call
  withdraw : (job : ℕ) → Call
  sweep : Call
  may_be_forgotten : (job : ℕ) → Call
  blocker_of : (job : ℕ) → Call
  value_of : (bytes : List ℕ) → Call  -- what the kind reads from bytes

pub data Answer : Type 0 where
  done : Answer
  begun : ℕ → Answer  -- the number of the new job
  value : List ℕ → Answer  -- a level as one number, a plan as its two minutes and its level
  forgot : ℕ → Answer  -- how many jobs
  says : Bool → Answer
  blocked : Option (ℕ × ℕ) → Answer  -- the active job and the setting, if there are
  no_value : Answer
  refused : ℕ × Option ℕ → Answer  -- the number, and the entry that it names

-- an answer that is accepted in its own way, or refused
abbrev pub answer_by : {A : Type 0} → (A → Answer) → Result A Refusal → Answer
answer_by f (Ok x) = f x
answer_by f (Err r) = refused (refusal_says r)

-- the policy that was made, or else the one before
abbrev pub made_or : Lent → Result Lent Refusal → Lent
made_or p (Ok new) = new
made_or p (Err r) = p

-- what calls are made on
pub record State (V : Type 0) : Type 0 where
  pub book : Book
  pub row : List V
  pub policy : Lent

module _ {V : Type 0} (k : Kind V) (shows : V → List ℕ) where
  -- the answer of a call, and what it leaves
  abbrev pub called : Call → State V → Answer × State V
  called (lend made) s = (answer_by (λ p. done) made, record { book = s.book; row = s.row; policy = made_or s.policy made })
  called begin s = lending s.policy (λ S p c again.
      (answer_by begun (begin_answer p c s.book), record { book = begin_book p c s.book; row = s.row; policy = again (begin_next p c s.book) }))
  called (read j e) s =
      (answer_by (λ v. value (shows v)) (read_answer s.book s.row j e), record { book = read_book s.book s.row j e; row = s.row; policy = s.policy })
  called (write j order) s = (
    answer_by (λ t. done) (write_answer k s.book s.row j order),
    record { book = write_book k s.book s.row j order; row = write_row k s.book s.row j order; policy = s.policy },
  )
  called (withdraw j) s = (answer_by (λ t. done) (withdraw_answer s.book j), record { book = withdraw_book s.book j; row = s.row; policy = s.policy })
  called sweep s = lending s.policy (λ S p c again.
      (forgot (sweep_answer p c s.book), record { book = sweep_book p c s.book; row = s.row; policy = again (sweep_next p c s.book) }))
  called (may_be_forgotten j) s = (says (may_forget s.book j), s)
  called (blocker_of j) s = (answer_by blocked (blocker s.book j), s)
  called (value_of bytes) s = (elim (k.reading bytes) [ Some v ↦ value (shows v) | None ↦ no_value ], s)

  -- the answers of calls, one after another
  abbrev pub answers : List Call → State V → List Answer
  answers [] s = []
  answers (c ∷ cs) s = (called c s).0 ∷ answers cs (called c s).1

-- scripts

-- a call and its answer
abbrev pub Line : Type 0
Line = Call × Answer

-- the kind of a script's values
pub data Values : Type 0 where
  levels : Values
  plans : Values

-- so many settings, so many active jobs, the answer of the opening, and the calls
pub record Script : Type 0 where
  pub settings : ℕ
  pub limit : ℕ
  pub values : Values
  pub opening : Answer
  pub lines : List Line

-- what the settings of a row start with

abbrev pub level_0 : Level
level_0 = record { value = 0; ranged = lit≤ tt }

abbrev pub plan_0 : Plan
plan_0 = record { on = 0; off = 1; level = level_0; ordered = lit< tt; ranged = lit≤ tt }

-- the answers to calls on a new book, under the policy that forgets nothing, with a row of so many settings
abbrev pub answers_on : Values → List Call → ℕ → Book → List Answer
answers_on levels cs e b =
    answers level_kind (λ v. v.value ∷ []) cs (record { book = b; row = replicate e level_0; policy = a_never (record {}) })
answers_on plans cs e b =
    answers plan_kind (λ p. p.on ∷ p.off ∷ p.level.value ∷ []) cs (record { book = b; row = replicate e plan_0; policy = a_never (record {}) })

-- the answers that a script gets
abbrev pub got : Script → List Answer
got x = elim (opened x.settings x.limit) [
  | Err r ↦ refused (refusal_says r) ∷ []
  | Ok b ↦ done ∷ answers_on x.values (map_list (λ (l : Line). l.0) x.lines) x.settings b
]

-- the answers that stand in it
abbrev pub expected : Script → List Answer
expected x = x.opening ∷ map_list (λ (l : Line). l.1) x.lines
