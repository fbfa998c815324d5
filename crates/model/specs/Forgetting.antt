-- When a finished job may be forgotten.
use Rattle.std.specs.Prelude.{ℕ, Bool, not, ◌&&◌, ◌||◌, ◌==◌}
use Rattle.model.specs.Lists.{some_of, each_of, below}
use Rattle.model.specs.Book.{Book, is_finished, read_by, written_by, touched_by, active, finished, tight_path}

-- job k touches the setting at least as strongly as job i: k wrote it, or k read it and i did not write it
abbrev pub as_strongly : Book → ℕ → ℕ → ℕ → Bool
as_strongly b k i e = written_by b k e || (not (written_by b i e) && read_by b k e)

-- a stand-in for i at the setting e, seen from j: another finished job with a tight path from j that touches e at least as strongly
abbrev pub has_stand_in : Book → ℕ → ℕ → ℕ → Bool
has_stand_in b i j e = some_of (λ k. not (k == i) && (tight_path b j k && as_strongly b k i e)) (finished b)

-- a finished job may be forgotten if it has a stand-in at every setting that it touched, seen from every active job with a tight path to it
abbrev pub may_forget : Book → ℕ → Bool
may_forget b i =
    is_finished b i
    && each_of (λ j. not (tight_path b j i) || each_of (λ e. not (touched_by b i e) || has_stand_in b i j e) (below b.settings)) (active b)
