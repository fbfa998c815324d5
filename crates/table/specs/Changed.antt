-- What a change makes of the job at a place.
use Rattle.std.specs.Prelude.{◌≡◌, ℕ, true, ◌||◌, Some, None, Option, ◌==◌}
use Rattle.table.specs.declared.jobs.Job.{Job}
use Rattle.table.specs.declared.settings.SettingSet.{SettingSet}
use Rattle.table.specs.Slots.{has_setting}

-- the job j, when it has also read the setting of index e
pub record AlsoRead (e : ℕ) (j j' : Job) : Type 0 where
  pub number : j'.number ≡ j.number
  pub finished : j'.finished ≡ j.finished
  pub reads : (d : ℕ) → has_setting j'.reads d ≡ (has_setting j.reads d || d == e)
  pub writes : j'.writes ≡ j.writes

-- a job has also read the setting of index e, and where there was none there is none
abbrev pub AfterRead : ℕ → Option Job → Option Job → Type 0
AfterRead e None o = o ≡ None
AfterRead e (Some j) o = (j' : Job) × (o ≡ Some j') × AlsoRead e j j'

-- a job is finished and wrote the settings of a set, and where there was none there is none
abbrev pub after_write : SettingSet → Option Job → Option Job
after_write s None = None
after_write s (Some j) = Some (record { number = j.number; finished = true; reads = j.reads; writes = s })
