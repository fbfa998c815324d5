-- The job of the least number above another, by its place.
use Rattle.std.specs.Prelude.{◌≡◌, ℕ, false, Some, None, Option}
use Rattle.graph.specs.declared.place_set.PlaceSet.{PlaceSet}
use Rattle.table.specs.declared.jobs.Job.{Job}
use Rattle.table.specs.declared.tables.Table.{Table}
use Rattle.table.specs.Slots.{slot}
use Rattle.table.specs.Least.{eligible, number_of, Least}

-- the job at the place i has the least number above `after` of the jobs at the places of a set
pub record NextAt (t : Table) (places : PlaceSet) (after i : ℕ) (x : Job) : Type 0 where
  pub here : slot t i ≡ Some x
  pub least : Least (eligible t places after) (λ k. number_of (slot t k)) i

-- of the jobs at the places of a set whose numbers are above `after`, the least number, or there is none
abbrev pub Next : Table → PlaceSet → ℕ → Option ℕ → Type 0
Next t places after None = (i : ℕ) → eligible t places after i ≡ false
Next t places after (Some n) =
    (i : ℕ) × (x : Job) × (slot t i ≡ Some x) × (x.number ≡ n) × Least (eligible t places after) (λ k. number_of (slot t k)) i
