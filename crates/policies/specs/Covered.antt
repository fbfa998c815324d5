-- When a setting does not keep a job from being overwritten.
use Rattle.std.specs.Prelude.{ℕ, Bool, not, ◌&&◌, ◌||◌}
use Rattle.model.specs.Lists.{some_of}
use Rattle.model.specs.Book.{Book, finished, written_by, touched_by}

-- the job did not touch the setting, or a finished job at the head of one of its arrows wrote it
abbrev pub covered : Book → ℕ → ℕ → Bool
covered b n e = not (touched_by b n e) || some_of (λ k. b.arrow n k && written_by b k e) (finished b)
