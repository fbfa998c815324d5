-- The job of the least number above a given one.
use Rattle.std.specs.Prelude.{◌≡◌, ℕ, ◌≤◌, Bool, false, ◌&&◌, T, Some, None, Option, nat_lt}
use Rattle.graph.specs.declared.place.Place.{Place}
use Rattle.graph.specs.declared.place_set.PlaceSet.{PlaceSet}
use Rattle.graph.specs.Members.{has}
use Rattle.table.specs.declared.jobs.Job.{Job}
use Rattle.table.specs.declared.tables.Table.{Table}
use Rattle.table.specs.Slots.{slot, passes}

-- there is a job, and its number is above n
abbrev pub above : ℕ → Option Job → Bool
above n o = passes (λ j. nat_lt n j.number) o

-- the number of the job, and 0 where there is none
abbrev pub number_of : Option Job → ℕ
number_of None = 0
number_of (Some j) = j.number

-- the place is in the set, and holds a job with a number above n
abbrev pub eligible : Table → PlaceSet → ℕ → ℕ → Bool
eligible t among n i = has among i && above n (slot t i)

-- p passes a test, and of all that pass it p has the least key
pub record Least (f : ℕ → Bool) (key : ℕ → ℕ) (p : ℕ) : Type 0 where
  pub passing : T (f p)
  pub least : (i : ℕ) → T (f i) → key p ≤ key i

-- of the places of a set that hold a job with a number above n, the one with the least number, or there is none
abbrev pub LeastAbove : Table → PlaceSet → ℕ → Option Place → Type 0
LeastAbove t among n None = (i : ℕ) → eligible t among n i ≡ false
LeastAbove t among n (Some p) = Least (eligible t among n) (λ i. number_of (slot t i)) p.index
