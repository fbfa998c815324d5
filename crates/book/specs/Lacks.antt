-- Where a finished job lacks a stand-in.
use Rattle.std.specs.Prelude.{ℕ, Bool, not, ◌&&◌, ◌||◌, Some, None, Option}
use Rattle.model.specs.Book as Model
use Rattle.model.specs.Blocker.{Lacking, Smaller}
use Rattle.table.specs.declared.jobs.Job.{Job}
use Rattle.table.specs.Slots.{has_setting}

-- a job touched the setting at least as strongly as the old one
abbrev pub as_strong : Job → ℕ → Job → Bool
as_strong old e j = has_setting j.writes e || (not (has_setting old.writes e) && has_setting j.reads e)

-- the smallest pair of an active job and a setting at which the job i lacks a stand-in, or there is none
abbrev pub FirstLack : Model.Book → ℕ → Option (ℕ × ℕ) → Type 0
FirstLack b i None = (j e : ℕ) → Lacking b i j e → ⊥
FirstLack b i (Some x) = Lacking b i x.0 x.1 × ((j e : ℕ) → Lacking b i j e → Smaller j e x.0 x.1 → ⊥)
