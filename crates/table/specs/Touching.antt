-- Which jobs read or wrote settings.
use Rattle.std.specs.Prelude.{ℕ, zero, suc, Bool, false, ◌&&◌, ◌||◌, T, Option}
use Rattle.table.specs.declared.jobs.Job.{Job}
use Rattle.table.specs.declared.settings.SettingSet.{SettingSet}
use Rattle.table.specs.Slots.{has_setting, passes}

-- the job wrote the setting of index e
abbrev pub wrote : ℕ → Job → Bool
wrote e j = has_setting j.writes e

-- the job read or wrote the setting of index e
abbrev pub touched : ℕ → Job → Bool
touched e j = has_setting j.reads e || has_setting j.writes e

-- some number below a bound passes a test
unfoldable pub some_below : (ℕ → Bool) → ℕ → Bool
some_below f zero = false
some_below f (suc n) = f n || some_below f n

-- the job read or wrote some setting of the set
abbrev pub touched_any : SettingSet → Job → Bool
touched_any s j = some_below (λ e. has_setting s e && touched e j) 64

-- the answer is yes exactly when there is a job, and it read or wrote some setting of the set
pub record Touched (s : SettingSet) (o : Option Job) (answer : Bool) : Type 0 where
  pub some : T answer → (e : ℕ) × T (has_setting s e) × T (passes (touched e) o)
  pub told : (e : ℕ) → T (has_setting s e) → T (passes (touched e) o) → T answer
