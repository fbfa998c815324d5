-- What the places of a table hold.
use Rattle.std.specs.Prelude.{ℕ, Bool, true, false, T, List, Some, None, Option, nat_eq, slice_index_or}
use Rattle.graph.specs.Members.{has}
use Rattle.graph.specs.Drawn.{drawn}
use Rattle.table.specs.declared.settings.SettingSet.{SettingSet}
use Rattle.table.specs.declared.jobs.Job.{Job}
use Rattle.table.specs.declared.tables.Table.{Table}

-- whether a set has the setting of index e
abbrev pub has_setting : SettingSet → ℕ → Bool
has_setting s e = has s.members e

-- the answer is yes exactly when the second set has every setting of the first
pub record Contained (s t : SettingSet) (answer : Bool) : Type 0 where
  pub each : T answer → (e : ℕ) → T (has_setting s e) → T (has_setting t e)
  pub told : ((e : ℕ) → T (has_setting s e) → T (has_setting t e)) → T answer

-- what the place of an index holds
abbrev pub slot_of : List (Option Job) → ℕ → Option Job
slot_of jobs i = slice_index_or jobs i None

abbrev pub slot : Table → ℕ → Option Job
slot t i = slot_of t.jobs i

-- whether an arrow leads from one place to another
abbrev pub bit : Table → ℕ → ℕ → Bool
bit t p q = drawn t.arrows.rows p q

-- there is a job, and it passes a test
abbrev pub passes : (Job → Bool) → Option Job → Bool
passes f None = false
passes f (Some j) = f j

-- there is a job
abbrev pub taken : Option Job → Bool
taken o = passes (λ j. true) o

-- there is a job of this number
abbrev pub numbered : ℕ → Option Job → Bool
numbered n o = passes (λ j. nat_eq j.number n) o

-- both places hold jobs, of one number
abbrev pub same_number : Option Job → Option Job → Bool
same_number None o = false
same_number (Some j) o = numbered j.number o
