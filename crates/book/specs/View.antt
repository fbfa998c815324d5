-- The book that a table of places shows: what it says of each job number.
use Rattle.std.specs.Prelude.{◌≡◌, ℕ, zero, suc, ◌<◌, ◌≤◌, Bool, false, cond, ◌&&◌, T, length, Some, None, Option, nat_le}
use Rattle.graph.specs.Walk.{Walk, anywhere}
use Rattle.model.specs.Book as Model
use Rattle.table.specs.declared.jobs.Job.{Job}
use Rattle.table.specs.declared.tables.Table.{Table}
use Rattle.table.specs.Slots.{slot, bit, has_setting, numbered, same_number, taken}

-- what a job has done
abbrev pub content : Job → Model.Job
content j = record { finished = j.finished; has_read = has_setting j.reads; has_written = has_setting j.writes }

-- what a place says of its job
abbrev pub shown : Option Job → Option Model.Job
shown None = None
shown (Some j) = Some (content j)

-- the place of a number, among the places below k
abbrev pub found_below : (ℕ → Option Job) → ℕ → ℕ → Option ℕ
found_below slots n zero = None
found_below slots n (suc k) = cond (numbered n (slots k)) (Some k) (found_below slots n k)

-- the place of a number
unfoldable pub found : (ℕ → Option Job) → ℕ → Option ℕ
found slots n = found_below slots n 64

-- the job at a place, where there is one
abbrev pub job_of : (ℕ → Option Job) → Option ℕ → Option Model.Job
job_of slots None = None
job_of slots (Some i) = shown (slots i)

-- whether an arrow joins two places, where there are two
abbrev pub arrow_of : (ℕ → ℕ → Bool) → Option ℕ → Option ℕ → Bool
arrow_of bits None o = false
arrow_of bits (Some i) None = false
arrow_of bits (Some i) (Some k) = bits i k

-- the book that a table shows
abbrev pub view : ℕ → ℕ → ℕ → Table → Model.Book
view settings limit last table = record {
  settings = settings;
  limit = limit;
  last = last;
  job = λ n. job_of (slot table) (found (slot table) n);
  arrow = λ p q. arrow_of (bit table) (found (slot table) p) (found (slot table) q);
}

-- what a book keeps

-- no two places hold jobs of one number
abbrev pub Apart : Table → Type 0
Apart t = (i k : ℕ) → T (same_number (slot t i) (slot t k)) → i ≡ k

-- arrows lead from and to places that hold jobs
abbrev pub Clean : Table → Type 0
Clean t = (i k : ℕ) → T (bit t i k) → T (taken (slot t i) && taken (slot t k))

-- a held number has been given
abbrev pub Given : Model.Book → Type 0
Given b = (n : ℕ) → T (Model.is_held b n) → T (nat_le 1 n && nat_le n b.last)

-- arrows never form a circle
abbrev pub Acyclic : Model.Book → Type 0
Acyclic b = (u : ℕ) → Walk b.arrow anywhere u u → ⊥

-- an active job has written nothing
abbrev pub Unwritten : Model.Book → Type 0
Unwritten b = (n e : ℕ) → T (Model.is_active b n && Model.written_by b n e) → ⊥

-- a job has touched none but the book's settings
abbrev pub Within : Model.Book → Type 0
Within b = (n e : ℕ) → T (Model.touched_by b n e) → e < b.settings

-- the numbers of settings and of jobs are within their bounds
abbrev pub Sized : Model.Book → Type 0
Sized b =
    ((1 ≤ b.settings) × (b.settings ≤ Model.most_settings))
    × ((1 ≤ b.limit) × (b.limit ≤ Model.most_active))
    × (b.last ≤ Model.last_number)
    × (length (Model.held b) ≤ Model.places)
    × (length (Model.active b) ≤ b.limit)
