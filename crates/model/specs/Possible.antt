-- The books that can exist: every call leads from such a book to such a book.
use Rattle.std.specs.Prelude.{ℕ, ◌<◌, ◌≤◌, T, length}
use Rattle.graph.specs.Walk.{Walk, anywhere, Answers}
use Rattle.model.specs.Book.{Book, places, last_number, most_settings, most_active, is_held, is_active, is_finished, written_by, touched_by, held, active, path, tight_path}

-- what a book keeps of its jobs and arrows; held numbers differ, since a number has at most one job
pub record Proper (b : Book) : Type 0 where
  -- a held number has been given
  pub ranged : (n : ℕ) → T (is_held b n) → (1 ≤ n) × (n ≤ b.last)
  -- both ends of an arrow are held
  pub ends : (p q : ℕ) → T (b.arrow p q) → T (is_held b p) × T (is_held b q)
  -- arrows never form a circle
  pub acyclic : (u : ℕ) → Walk b.arrow anywhere u u → ⊥
  -- an active job has written nothing
  pub unwritten : (n e : ℕ) → T (is_active b n) → T (written_by b n e) → ⊥

-- with the bounds on its sizes
pub record Possible (b : Book) : Type 0 where
  pub proper : Proper b
  pub settings_fit : (1 ≤ b.settings) × (b.settings ≤ most_settings)
  pub limit_fits : (1 ≤ b.limit) × (b.limit ≤ most_active)
  pub numbers_fit : b.last ≤ last_number
  -- at most so many jobs are held, and at most so many active
  pub held_fit : length (held b) ≤ places
  pub active_fit : length (active b) ≤ b.limit
  -- a job has read and written none but the book's settings
  pub touched_fit : (n e : ℕ) → T (touched_by b n e) → e < b.settings

-- the tests for a path and for a tight path answer exactly whether there is such a walk
pub record PathsExact (b : Book) (p q : ℕ) : Type 0 where
  pub any : Answers b.arrow anywhere p q (path b p q)
  pub tight : Answers b.arrow (is_finished b) p q (tight_path b p q)

-- in every book that can exist
abbrev pub EveryPathIsAWalk : Type 0
EveryPathIsAWalk = (b : Book) → Possible b → (p q : ℕ) → PathsExact b p q
