-- The table of worked books, and the theorem that its answers are right.
use Rattle.std.specs.Prelude.{◌≡◌, ℕ, true, false, List, [], ◌∷◌, ◌++◌, Some, None, Ok}
use Rattle.model.specs.Lists.{map_list, up_to}
use Rattle.model.specs.Orders.{entry_letter}
use Rattle.values.specs.Words.{word}
use Rattle.worked.specs.Scripts.{Lent, Answer, Line, Values, Script, new_spaced, got, expected}
use Rattle.worked.specs.Scripts.Lent.{a_clear, a_stale, a_thorough, a_pile, only}
use Rattle.worked.specs.Scripts.Call.{lend, begin, read, write, withdraw, sweep, may_be_forgotten, blocker_of, value_of}
use Rattle.worked.specs.Scripts.Answer.{done, begun, value, forgot, says, blocked, no_value, refused}
use Rattle.worked.specs.Scripts.Values.{levels, plans}

-- parts of scripts

-- an entry of an order: a setting and the bytes of its value
abbrev pub entry : ℕ → List ℕ → List ℕ
entry e bytes = entry_letter ∷ e ∷ bytes

-- an entry with a level
abbrev pub sets : ℕ → ℕ → List ℕ
sets e n = entry e (word n)

-- the bytes of two minutes and a level
abbrev pub plan_bytes : ℕ → ℕ → ℕ → List ℕ
plan_bytes on off n = word on ++ (word off ++ word n)

-- a policy is lent to the begins and sweeps that follow
abbrev pub lent : Lent → Line
lent p = (lend (Ok p), done)

-- the jobs 1 to n begin
abbrev pub begins : ℕ → List Line
begins n = map_list (λ (m : ℕ). (begin, begun m)) (up_to n)

-- 1 reads setting 0, then 2 and 3 write it
abbrev pub two_writers : List Line
two_writers = begins 3 ++ ((read 1 0, value (0 ∷ [])) ∷ (write 2 (sets 0 20), done) ∷ (write 3 (sets 0 30), done) ∷ [])

-- an opening alone
abbrev pub opening_of : ℕ → ℕ → Answer → Script
opening_of e a r = record { settings = e; limit = a; values = levels; opening = r; lines = [] }

-- four settings and at most four active jobs
abbrev pub small : Values → List Line → Script
small vs ls = record { settings = 4; limit = 4; values = vs; opening = done; lines = ls }

-- steps

-- with one active job at most, a second begin is refused until the first job is gone
abbrev pub at_the_limit : Script
at_the_limit = record {
  settings = 1;
  limit = 1;
  values = levels;
  opening = done;
  lines = (begin, begun 1) ∷ (begin, refused (4, None)) ∷ (withdraw 1, done) ∷ (begin, begun 2) ∷ [];
}

-- 1 reads 0, 2 writes 0, 1 reads 0 again: that would close a circle, and 1 is no longer active
abbrev pub read_again : List Line
read_again =
    begins 2
    ++ (read 1 0, value (0 ∷ []))
    ∷ (write 2 (sets 0 20), done)
    ∷ (read 1 0, refused (12, None))
    ∷ (read 1 0, refused (7, None))
    ∷ []

-- 1 reads 0, 2 reads 1, 1 writes 1, 2 writes 0: that would close a circle, and 2 is no longer active
abbrev pub crossed : List Line
crossed =
    begins 2
    ++ (read 1 0, value (0 ∷ []))
    ∷ (read 2 1, value (0 ∷ []))
    ∷ (write 1 (sets 1 11), done)
    ∷ (write 2 (sets 0 20), refused (12, None))
    ∷ (withdraw 2, refused (7, None))
    ∷ []

-- 1 reads and writes 0, and 2 reads what it wrote
abbrev pub own_setting : List Line
own_setting =
    begins 2
    ++ (read 1 0, value (0 ∷ []))
    ∷ (write 1 (sets 0 10), done)
    ∷ (read 2 0, value (10 ∷ []))
    ∷ []

-- 1 reads 0, 2 writes 0 and 1, 3 reads 1 and 2, 4 writes 2, 3 is withdrawn: 1 may read what 4 wrote
abbrev pub path_withdrawn : List Line
path_withdrawn =
    begins 4
    ++ (read 1 0, value (0 ∷ []))
    ∷ (write 2 (sets 0 20 ++ sets 1 21), done)
    ∷ (read 3 1, value (21 ∷ []))
    ∷ (read 3 2, value (0 ∷ []))
    ∷ (write 4 (sets 2 42), done)
    ∷ (withdraw 3, done)
    ∷ (read 1 2, value (42 ∷ []))
    ∷ []

-- orders and values

-- an order that names setting 3 twice is refused at its second entry, and its job stays active
abbrev pub named_twice : List Line
named_twice =
    begins 1
    ++ (write 1 (sets 3 1 ++ sets 3 2), refused (10, Some 2))
    ∷ (write 1 (sets 3 1), done)
    ∷ []

-- there is no setting 4, for an entry or for a read; a letter alone is no order
abbrev pub no_such : List Line
no_such =
    begins 1
    ++ (write 1 (sets 0 1 ++ sets 4 1), refused (8, Some 2))
    ∷ (read 1 4, refused (8, None))
    ∷ (write 1 (entry_letter ∷ []), refused (9, None))
    ∷ []

-- the bytes 03 e8 are the level 1000, and 03 e9 are none: an entry with them is refused
abbrev pub level_bytes : List Line
level_bytes =
    begins 2
    ++ (value_of (3 ∷ 232 ∷ []), value (1000 ∷ []))
    ∷ (value_of (3 ∷ 233 ∷ []), no_value)
    ∷ (write 1 (entry 0 (3 ∷ 232 ∷ []) ++ entry 1 (3 ∷ 233 ∷ [])), refused (11, Some 2))
    ∷ (write 1 (entry 0 (3 ∷ 232 ∷ [])), done)
    ∷ (read 2 0, value (1000 ∷ []))
    ∷ []

-- a plan goes on before it goes off, and off at the minute 1439 at the latest: an entry with another is refused
abbrev pub plan_minutes : List Line
plan_minutes =
    begins 2
    ++ (value_of (plan_bytes 0 1439 1000), value (0 ∷ 1439 ∷ 1000 ∷ []))
    ∷ (value_of (plan_bytes 600 600 0), no_value)
    ∷ (value_of (plan_bytes 0 1440 0), no_value)
    ∷ (write 1 (entry 0 (plan_bytes 600 600 0)), refused (11, Some 1))
    ∷ (write 1 (entry 0 (plan_bytes 0 1439 1000) ++ entry 1 (plan_bytes 0 1440 0)), refused (11, Some 2))
    ∷ (write 1 (entry 0 (plan_bytes 0 1439 1000)), done)
    ∷ (read 2 0, value (0 ∷ 1439 ∷ 1000 ∷ []))
    ∷ []

-- forgetting

-- either of two writers may be forgotten; once 3 is, 2 may not be, for job 1 at setting 0
abbrev pub one_of_two : List Line
one_of_two =
    two_writers
    ++ (may_be_forgotten 2, says true)
    ∷ (may_be_forgotten 3, says true)
    ∷ (blocker_of 2, blocked None)
    ∷ lent (only 3)
    ∷ (sweep, forgot 1)
    ∷ (may_be_forgotten 2, says false)
    ∷ (blocker_of 2, blocked (Some (1, 0)))
    ∷ []

-- with 1 withdrawn, 2 may be forgotten after 3 too; only a finished job that is held can have a blocker
abbrev pub both_of_two : List Line
both_of_two =
    two_writers
    ++ (withdraw 1, done)
    ∷ lent (only 3)
    ∷ (blocker_of 1, refused (13, None))
    ∷ (sweep, forgot 1)
    ∷ (may_be_forgotten 2, says true)
    ∷ (blocker_of 2, blocked None)
    ∷ (blocker_of 3, refused (13, None))
    ∷ []

-- 1 reads 0, 2 writes 0, 3 reads 0 and writes nothing: 2 may not be forgotten, 3 may
abbrev pub reader_behind : List Line
reader_behind =
    begins 3
    ++ (read 1 0, value (0 ∷ []))
    ∷ (write 2 (sets 0 20), done)
    ∷ (read 3 0, value (20 ∷ []))
    ∷ (write 3 [], done)
    ∷ (may_be_forgotten 2, says false)
    ∷ (may_be_forgotten 3, says true)
    ∷ []

-- policies

-- a thorough sweep forgets the first of two writers, and leaves the second
abbrev pub swept_thoroughly : List Line
swept_thoroughly =
    two_writers
    ++ lent (a_thorough (record {}))
    ∷ (sweep, forgot 1)
    ∷ (blocker_of 2, refused (13, None))
    ∷ (blocker_of 3, blocked (Some (1, 0)))
    ∷ (sweep, forgot 0)
    ∷ []

-- 1 reaches both writers, so that neither is clear until 1 is withdrawn
abbrev pub swept_clear : List Line
swept_clear =
    two_writers
    ++ lent (a_clear (record {}))
    ∷ (sweep, forgot 0)
    ∷ (withdraw 1, done)
    ∷ (sweep, forgot 2)
    ∷ []

-- the second writer overwrites the first, which is stale then
abbrev pub swept_stale : List Line
swept_stale =
    two_writers
    ++ lent (a_stale (record {}))
    ∷ (sweep, forgot 1)
    ∷ (blocker_of 2, refused (13, None))
    ∷ []

-- a pile of clear and stale forgets the stale one, and with 1 withdrawn the clear one too
abbrev pub swept_by_pile : List Line
swept_by_pile =
    two_writers
    ++ lent (a_pile (record { first = record {}; second = record {} }))
    ∷ (sweep, forgot 1)
    ∷ (withdraw 1, done)
    ∷ (sweep, forgot 1)
    ∷ []

-- no policy passes on every 0th question; one that passes on every second keeps the question of the first sweep
abbrev pub swept_spaced : List Line
swept_spaced =
    two_writers
    ++ (lend (new_spaced 0), refused (14, None))
    ∷ (lend (new_spaced 2), done)
    ∷ (sweep, forgot 0)
    ∷ (sweep, forgot 1)
    ∷ (blocker_of 2, refused (13, None))
    ∷ []

-- the table; of openings, 64 settings and 32 active jobs are the most, and the settings are checked first
abbrev pub worked_books : List Script
worked_books =
    opening_of 64 32 done
    ∷ opening_of 65 32 (refused (1, None))
    ∷ opening_of 64 33 (refused (2, None))
    ∷ opening_of 0 0 (refused (1, None))
    ∷ at_the_limit
    ∷ small levels read_again
    ∷ small levels crossed
    ∷ small levels own_setting
    ∷ small levels path_withdrawn
    ∷ small levels named_twice
    ∷ small levels no_such
    ∷ small levels level_bytes
    ∷ small plans plan_minutes
    ∷ small levels one_of_two
    ∷ small levels both_of_two
    ∷ small levels reader_behind
    ∷ small levels swept_thoroughly
    ∷ small levels swept_clear
    ∷ small levels swept_stale
    ∷ small levels swept_by_pile
    ∷ small levels swept_spaced
    ∷ []

-- every call of every script gets the answer that stands beside it
abbrev pub WorkedBooksHold : Type 0
WorkedBooksHold = map_list got worked_books ≡ map_list expected worked_books
