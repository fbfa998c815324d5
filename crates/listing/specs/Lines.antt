-- The line of each command of a stream of levels, and of a fault.
use Rattle.std.specs.Prelude.{ℕ, zero, suc, cond, List, [], ◌++◌, length, Some, None, codes, decimal, Option, ◌==◌}
use Rattle.model.specs.declared.faults.Fault.{Fault}
use Rattle.model.specs.Refusals.{fault_number, fault_offset}
use Rattle.model.specs.Orders.{raw_entry, entry_count, order_formed}
use Rattle.values.specs.declared.levels.Level.{Level}
use Rattle.values.specs.Levels.{level_read}
use Rattle.commands.specs.Calls.{Call}
use Rattle.commands.specs.Calls.Call.{begins, reads, writes, withdraws, sweeps}

-- how many bytes a level has
abbrev pub width : ℕ
width = 2

-- a level, where there is one
abbrev pub level_words : Option Level → List ℕ
level_words None = codes "no level"
level_words (Some level) = decimal level.value

abbrev pub value_words : List ℕ → List ℕ
value_words bytes = level_words (level_read bytes)

-- what stands before the i-th entry, counted from 0
abbrev pub between : ℕ → List ℕ
between i = cond (i == 0) (codes " ") (codes ", ")

-- the i-th entry: its setting and its value
abbrev pub entry_words : ℕ → ℕ × List ℕ → List ℕ
entry_words i entry = between i ++ (codes "setting " ++ (decimal entry.0 ++ (codes " = " ++ value_words entry.1)))

-- the first n entries
abbrev pub entries_words : List ℕ → ℕ → List ℕ
entries_words order zero = []
entries_words order (suc n) = entries_words order n ++ entry_words n (raw_entry width order n)

-- the entries of an order, that it has none, or that it is malformed
abbrev pub order_words : List ℕ → List ℕ
order_words order =
    cond (order_formed width order)
    (cond (entry_count width order == 0) (codes " nothing") (entries_words order (entry_count width order)))
    (codes " a malformed order of " ++ (decimal (length order) ++ codes " bytes"))

-- the n-th command of a stream
abbrev pub command_words : ℕ → Call → List ℕ
command_words n begins = decimal n ++ codes " B a job begins\n"
command_words n (reads job setting) = decimal n ++ (codes " R job " ++ (decimal job ++ (codes " reads setting " ++ (decimal setting ++ codes "\n"))))
command_words n (writes job order) = decimal n ++ (codes " W job " ++ (decimal job ++ (codes " writes" ++ (order_words order ++ codes "\n"))))
command_words n (withdraws job) = decimal n ++ (codes " X job " ++ (decimal job ++ codes " is withdrawn\n"))
command_words n sweeps = decimal n ++ codes " S finished jobs are swept\n"

-- a fault in the place of the n-th command
abbrev pub fault_words : ℕ → Fault → List ℕ
fault_words n f = decimal n ++ (codes " ? no " ++ (decimal (fault_number f) ++ (codes " " ++ (decimal (fault_offset f) ++ codes "\n"))))
