-- Worked examples: scripts of calls, each with the answer that it gets, by computing.
use Rattle.std.specs.Prelude.{◌≡◌, ℕ, Bool, true, false, cond, List, [], ◌∷◌, replicate, Some, None, Ok, Err, Option, Result, refl}
use Rattle.std.proofs.Common.{lit≤}
use Rattle.model.specs.declared.refusals.Refusal.{Refusal}
use Rattle.model.specs.Refusals.{refusal_says}
use Rattle.model.specs.Lists.{map_list}
use Rattle.model.specs.Kinds.{Kind}
use Rattle.model.specs.Orders.{entry_letter}
use Rattle.model.specs.Book.{Book}
use Rattle.model.specs.Forgetting.{may_forget}
use Rattle.model.specs.Calls.{opened, read_answer, read_book, write_answer, write_book, write_row, withdraw_answer, withdraw_book}
use Rattle.model.specs.Policies.{Policy, uncounted, never, clear, stale, thorough_one}
use Rattle.model.specs.Sweeps.{sweep_answer, sweep_book}
use Rattle.model.specs.Begin.{begin_answer, begin_book}
use Rattle.model.specs.Blocker.{blocker}

-- a plain kind of value for the scripts: any two bytes

abbrev pub two_read : List ℕ → Option (ℕ × ℕ)
two_read [] = None
two_read (a ∷ []) = None
two_read (a ∷ (b ∷ [])) = Some (a, b)
two_read (a ∷ (b ∷ (c ∷ rest))) = None

abbrev pub two_write : ℕ × ℕ → List ℕ
two_write v = v.0 ∷ (v.1 ∷ [])

pub two_writes_back : (bytes : List ℕ) (v : ℕ × ℕ) → two_read bytes ≡ Some v → two_write v ≡ bytes
two_writes_back [] v e = cc
two_writes_back (a ∷ []) v e = cc
two_writes_back (a ∷ (b ∷ [])) v e = cc
two_writes_back (a ∷ (b ∷ (c ∷ rest))) v e = cc

abbrev pub two_bytes : Kind (ℕ × ℕ)
two_bytes = record {
  width = 2;
  reading = two_read;
  writing = two_write;
  narrow = (lit≤ tt, lit≤ tt);
  sized = λ v. refl;
  reads_back = λ v. refl;
  writes_back = two_writes_back;
}

-- an entry of an order, for the value of bytes 0 and 7, and what follows it
abbrev pub entry : ℕ → List ℕ → List ℕ
entry e rest = entry_letter ∷ (e ∷ (0 ∷ (7 ∷ rest)))

-- a policy that answers this job, where it may be forgotten
abbrev pub only : ℕ → Policy (Unit {0})
only n = uncounted (λ b. cond (may_forget b n) (Some n) None) false

-- scripts

-- a call; begins and sweeps are made under a policy that counts nothing
pub data Call : Type 0 where
  begin : Policy (Unit {0}) → Call
  read : (job setting : ℕ) → Call
  write : (job : ℕ) (order : List ℕ) → Call
  withdraw : (job : ℕ) → Call
  sweep : Policy (Unit {0}) → Call
  may_be_forgotten : (job : ℕ) → Call
  blocker_of : (job : ℕ) → Call

-- what it is answered
pub data Answer : Type 0 where
  done : Answer
  number : ℕ → Answer  -- of the job begun, or of the jobs forgotten
  value : ℕ × ℕ → Answer
  says : Bool → Answer
  blocked : Option (ℕ × ℕ) → Answer
  refused : ℕ × Option ℕ → Answer  -- by this number, and naming this entry

-- an answer that is accepted in its own way, or refused
abbrev pub answer_by : {A : Type 0} → (A → Answer) → Result A Refusal → Answer
answer_by f (Ok x) = f x
answer_by f (Err r) = refused (refusal_says r)

-- the answer of a call, and the book and the row after it
abbrev pub call_answer : Call → Book → List (ℕ × ℕ) → Answer
call_answer (begin p) b row = answer_by number (begin_answer p tt b)
call_answer (read j e) b row = answer_by value (read_answer b row j e)
call_answer (write j bytes) b row = answer_by (λ t. done) (write_answer two_bytes b row j bytes)
call_answer (withdraw j) b row = answer_by (λ t. done) (withdraw_answer b j)
call_answer (sweep p) b row = number (sweep_answer p tt b)
call_answer (may_be_forgotten n) b row = says (may_forget b n)
call_answer (blocker_of n) b row = answer_by blocked (blocker b n)

abbrev pub call_book : Call → Book → List (ℕ × ℕ) → Book
call_book (begin p) b row = begin_book p tt b
call_book (read j e) b row = read_book b row j e
call_book (write j bytes) b row = write_book two_bytes b row j bytes
call_book (withdraw j) b row = withdraw_book b j
call_book (sweep p) b row = sweep_book p tt b
call_book (may_be_forgotten n) b row = b
call_book (blocker_of n) b row = b

abbrev pub call_row : Call → Book → List (ℕ × ℕ) → List (ℕ × ℕ)
call_row (begin p) b row = row
call_row (read j e) b row = row
call_row (write j bytes) b row = write_row two_bytes b row j bytes
call_row (withdraw j) b row = row
call_row (sweep p) b row = row
call_row (may_be_forgotten n) b row = row
call_row (blocker_of n) b row = row

-- the answers of calls, one after another
abbrev pub answers : List Call → Book → List (ℕ × ℕ) → List Answer
answers [] b row = []
answers (c ∷ cs) b row = call_answer c b row ∷ answers cs (call_book c b row) (call_row c b row)

-- an opening with so many settings and so many active jobs, its answer, and the calls that follow with theirs
pub record Script : Type 0 where
  pub settings : ℕ
  pub limit : ℕ
  pub opening : Answer
  pub calls : List (Call × Answer)

-- the answers that a script gets, its row all zeros, and those that stand in it
abbrev pub got : Script → List Answer
got x = elim (opened x.settings x.limit) [
  | Err r ↦ refused (refusal_says r) ∷ []
  | Ok b ↦ done ∷ answers (map_list (λ (c : Call × Answer). c.0) x.calls) b (replicate x.settings (0, 0))
]

abbrev pub expected : Script → List Answer
expected x = x.opening ∷ map_list (λ (c : Call × Answer). c.1) x.calls

-- four settings and four active jobs
abbrev pub small : List (Call × Answer) → Script
small cs = record { settings = 4; limit = 4; opening = done; calls = cs }

-- two jobs begun, and then the calls
abbrev pub two_begun : List (Call × Answer) → List (Call × Answer)
two_begun cs = (begin never, number 1) ∷ ((begin never, number 2) ∷ cs)

-- 1 reads setting 0, then 2 and 3 write it
abbrev pub two_writers : List (Call × Answer) → List (Call × Answer)
two_writers cs = two_begun ((begin never, number 3) ∷ ((read 1 0, value (0, 0)) ∷ ((write 2 (entry 0 []), done) ∷ ((write 3 (entry 0 []), done) ∷ cs))))

-- with one active job at most: a second begin is refused until the first job is gone
abbrev pub at_the_limit : List (Call × Answer)
at_the_limit = (begin never, number 1) ∷ (begin never, refused (4, None)) ∷ (withdraw 1, done) ∷ (begin never, number 2) ∷ []

-- the table
abbrev pub table : List Script
table =
    -- openings
    record { settings = 64; limit = 32; opening = done; calls = [] }
    ∷ record { settings = 65; limit = 32; opening = refused (1, None); calls = [] }
    ∷ record { settings = 64; limit = 33; opening = refused (2, None); calls = [] }
    ∷ record { settings = 0; limit = 0; opening = refused (1, None); calls = [] }
    -- no more active jobs than the limit
    ∷ record { settings = 1; limit = 1; opening = done; calls = at_the_limit }
    -- 1 reads 0, 2 writes 0, 1 reads 0 again: a circle, and 1 is cut off
    ∷ small (two_begun ((read 1 0, value (0, 0)) ∷ (write 2 (entry 0 []), done) ∷ (read 1 0, refused (12, None)) ∷ (read 1 0, refused (7, None)) ∷ []))
    -- 1 reads 0, 2 reads 1, 1 writes 1, 2 writes 0: a circle, and 2 is cut off
    ∷ small (two_begun ((read 1 0, value (0, 0)) ∷ (read 2 1, value (0, 0)) ∷ (write 1 (entry 1 []), done)
    ∷ (write 2 (entry 0 []), refused (12, None)) ∷ (withdraw 2, refused (7, None)) ∷ []))
    -- 1 reads and writes 0; 2 reads what it wrote
    ∷ small (two_begun ((read 1 0, value (0, 0)) ∷ (write 1 (entry 0 []), done) ∷ (read 2 0, value (0, 7)) ∷ []))
    -- either of two writers may be forgotten, but not both: without 3, the active job 1 and the setting 0 block 2
    ∷ small (two_writers ((may_be_forgotten 2, says true) ∷ (may_be_forgotten 3, says true) ∷ (blocker_of 2, blocked None)
    ∷ (sweep (only 3), number 1) ∷ (may_be_forgotten 2, says false) ∷ (blocker_of 2, blocked (Some (1, 0))) ∷ (blocker_of 3, refused (13, None)) ∷ (sweep thorough_one, number 0) ∷ []))
    -- with 1 withdrawn, both
    ∷ small (two_writers ((withdraw 1, done) ∷ (sweep (only 3), number 1) ∷ (may_be_forgotten 2, says true) ∷ (sweep clear, number 1) ∷ []))
    -- a thorough sweep forgets the first of the two, and so does a sweep under stale, since the second overwrites it
    ∷ small (two_writers ((sweep thorough_one, number 1) ∷ (blocker_of 2, refused (13, None)) ∷ (blocker_of 3, blocked (Some (1, 0))) ∷ []))
    ∷ small (two_writers ((sweep clear, number 0) ∷ (sweep stale, number 1) ∷ (blocker_of 2, refused (13, None)) ∷ []))
    -- 2 overwrites what 1 read, 3 reads what 2 wrote and more, 4 overwrites that; with 3 withdrawn, 1 may read what 4 wrote
    ∷ small (two_begun ((begin never, number 3) ∷ (begin never, number 4) ∷ (read 1 0, value (0, 0)) ∷ (write 2 (entry 0 (entry 1 [])), done)
    ∷ (read 3 1, value (0, 7)) ∷ (read 3 2, value (0, 0)) ∷ (write 4 (entry 2 []), done) ∷ (withdraw 3, done) ∷ (read 1 2, value (0, 7)) ∷ []))
    -- 3 reads what 2 wrote and writes nothing: 3 may be forgotten, 2 may not
    ∷ small (two_begun ((begin never, number 3) ∷ (read 1 0, value (0, 0)) ∷ (write 2 (entry 0 []), done)
    ∷ (read 3 0, value (0, 7)) ∷ (write 3 [], done) ∷ (may_be_forgotten 2, says false) ∷ (may_be_forgotten 3, says true) ∷ []))
    -- orders: a setting named twice, one too great, bytes that are no entries; the job stays active
    ∷ small (two_begun ((write 1 (entry 3 (entry 3 [])), refused (10, Some 2)) ∷ (write 1 (entry 4 []), refused (8, Some 1))
    ∷ (write 1 (entry_letter ∷ []), refused (9, None)) ∷ (read 1 4, refused (8, None)) ∷ (write 1 (entry 3 []), done) ∷ []))
    ∷ []

-- every call of every script gets the answer that stands beside it
abbrev pub WorkedExamplesHold : Type 0
WorkedExamplesHold = map_list got table ≡ map_list expected table
