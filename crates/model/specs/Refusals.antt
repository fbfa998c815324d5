-- The number of each refusal and of each stream fault, what else it says, and the text of both.
use Rattle.std.specs.Prelude.{ℕ, Bool, List, ◌++◌, Some, None, codes, decimal, Option, ◌==◌}
use Rattle.model.specs.declared.refusals.Refusal.{Refusal}
use Rattle.model.specs.declared.refusals.Refusal.TheVariants.{SettingsRange, LimitRange, RowLength, ActiveLimit, NumbersSpent, BookFull, NotActive, NoSetting, OrderForm, EntrySetting, EntryRepeated, EntryValue, Circle, NotFinished, SpacingZero, NoRoom}
use Rattle.model.specs.declared.faults.Fault.{Fault}
use Rattle.model.specs.declared.faults.Fault.TheVariants.{TooLong, NoLetter, CutShort}

-- the number of a refusal, and the entry of the order that it names, counted from 1;
-- a missing setting has one number, whether a read or an entry of an order names it
abbrev pub refusal_says : Refusal → ℕ × Option ℕ
refusal_says SettingsRange = (1, None)
refusal_says LimitRange = (2, None)
refusal_says RowLength = (3, None)
refusal_says ActiveLimit = (4, None)
refusal_says NumbersSpent = (5, None)
refusal_says BookFull = (6, None)
refusal_says NotActive = (7, None)
refusal_says NoSetting = (8, None)
refusal_says (EntrySetting i) = (8, Some i)
refusal_says OrderForm = (9, None)
refusal_says (EntryRepeated i) = (10, Some i)
refusal_says (EntryValue i) = (11, Some i)
refusal_says Circle = (12, None)
refusal_says NotFinished = (13, None)
refusal_says SpacingZero = (14, None)
refusal_says NoRoom = (18, None)

abbrev pub number_of : Refusal → ℕ
number_of r = (refusal_says r).0

abbrev pub entry_of : Refusal → Option ℕ
entry_of r = (refusal_says r).1

-- whether a refusal ends its job: only that of a step that would close a circle does
abbrev pub cuts_off : Refusal → Bool
cuts_off r = number_of r == 12

-- the number of a stream fault, and the offset of the byte that it names
abbrev pub fault_says : Fault → ℕ × ℕ
fault_says TooLong = (15, 0)
fault_says (NoLetter at) = (16, at)
fault_says (CutShort at) = (17, at)

abbrev pub fault_number : Fault → ℕ
fault_number f = (fault_says f).0

abbrev pub fault_offset : Fault → ℕ
fault_offset f = (fault_says f).1

-- a number, and behind a space another, where there is one
abbrev pub numbers_text : ℕ → Option ℕ → List ℕ
numbers_text n None = decimal n
numbers_text n (Some m) = decimal n ++ (codes " " ++ decimal m)

-- how a refusal is printed: its number, and the entry that it may name
abbrev pub refusal_text : Refusal → List ℕ
refusal_text r = numbers_text (number_of r) (entry_of r)

-- how a fault is printed: its number, and its offset
abbrev pub fault_text : Fault → List ℕ
fault_text f = numbers_text (fault_number f) (Some (fault_offset f))
