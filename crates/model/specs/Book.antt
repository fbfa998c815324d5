-- The book, by what it says of each job number; which place holds a job is no part of it.
use Rattle.std.specs.Prelude.{ℕ, Bool, true, false, cond, not, ◌&&◌, ◌||◌, List, Some, None, filter, Option, ◌==◌}
use Rattle.model.specs.Lists.{some_of, up_to}
use Rattle.model.specs.Paths.{joined}

-- a job that the book holds: whether it is finished, and which settings it has read and written
pub record Job : Type 0 where
  pub finished : Bool
  pub has_read : ℕ → Bool
  pub has_written : ℕ → Bool

-- what a book says
pub record Book : Type 0 where
  pub settings : ℕ  -- how many settings there are, numbered from 0
  pub limit : ℕ  -- how many jobs may be active at once
  pub last : ℕ  -- the last job number given, 0 before the first
  pub job : ℕ → Option Job  -- the job of a number, where it is held
  pub arrow : ℕ → ℕ → Bool  -- an arrow from p to q: p must come before q

-- how many jobs a book can hold
abbrev pub places : ℕ
places = 64

-- the greatest job number
abbrev pub last_number : ℕ
last_number = 65535

-- how many settings a book can have
abbrev pub most_settings : ℕ
most_settings = 64

-- how many jobs it can let be active at once
abbrev pub most_active : ℕ
most_active = 32

-- there is a job, and it passes a test
abbrev pub holds : (Job → Bool) → Option Job → Bool
holds f None = false
holds f (Some j) = f j

-- a job of this number is held
abbrev pub is_held : Book → ℕ → Bool
is_held b n = holds (λ j. true) (b.job n)

-- the job is held and active
abbrev pub is_active : Book → ℕ → Bool
is_active b n = holds (λ j. not j.finished) (b.job n)

-- the job is held and finished
abbrev pub is_finished : Book → ℕ → Bool
is_finished b n = holds (λ j. j.finished) (b.job n)

-- the job has read the setting
abbrev pub read_by : Book → ℕ → ℕ → Bool
read_by b n e = holds (λ j. j.has_read e) (b.job n)

-- the job has written the setting
abbrev pub written_by : Book → ℕ → ℕ → Bool
written_by b n e = holds (λ j. j.has_written e) (b.job n)

-- the job has read or written the setting
abbrev pub touched_by : Book → ℕ → ℕ → Bool
touched_by b n e = read_by b n e || written_by b n e

-- the numbers of the jobs that pass a test, in rising order
abbrev pub jobs_that : (Job → Bool) → Book → List ℕ
jobs_that f b = filter (λ n. holds f (b.job n)) (up_to b.last)

-- the held jobs
abbrev pub held : Book → List ℕ
held b = jobs_that (λ j. true) b

-- the active jobs
abbrev pub active : Book → List ℕ
active b = jobs_that (λ j. not j.finished) b

-- the finished jobs
abbrev pub finished : Book → List ℕ
finished b = jobs_that (λ j. j.finished) b

-- a finished job at the head of an arrow from n wrote the setting
abbrev pub written_after : Book → ℕ → ℕ → Bool
written_after b n e = some_of (λ k. b.arrow n k && written_by b k e) (finished b)

-- a path of one arrow or more
abbrev pub path : Book → ℕ → ℕ → Bool
path b p q = joined b.arrow (held b) p q

-- a tight path: every job strictly between its ends is finished
abbrev pub tight_path : Book → ℕ → ℕ → Bool
tight_path b p q = joined b.arrow (finished b) p q

-- the book without a job and its arrows
abbrev pub removed : Book → ℕ → Book
removed b n = record {
  settings = b.settings;
  limit = b.limit;
  last = b.last;
  job = λ m. cond (m == n) None (b.job m);
  arrow = λ p q. not (p == n) && (not (q == n) && b.arrow p q);
}

-- the book that has forgotten a job: where an arrow led to the job and one from it, an arrow now joins the two ends
abbrev pub forgotten : Book → ℕ → Book
forgotten b n = record {
  settings = b.settings;
  limit = b.limit;
  last = b.last;
  job = λ m. cond (m == n) None (b.job m);
  arrow = λ p q. not (p == n) && (not (q == n) && (b.arrow p q || (b.arrow p n && b.arrow n q)));
}
