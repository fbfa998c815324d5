-- The steps of jobs on the settings, their conflicts, and circles of conflicts.
use Rattle.std.specs.Prelude.{ℕ, Bool, true, false, not, ◌&&◌, ◌||◌, List, [], ◌∷◌, ◌==◌, nat_eq}
use Rattle.graph.specs.Walk.{Walk, anywhere}
use Rattle.model.specs.Lists.{some_of}

-- a read of one setting that gave a value, or a write of several entries, each a setting and its new value
pub data Step (V : Type 0) : Type 0 where
  reads : (job setting : ℕ) (value : V) → Step V
  writes : (job : ℕ) (entries : List (ℕ × V)) → Step V

module _ {V : Type 0} where
  -- the job of a step
  abbrev pub by : Step V → ℕ
  by (reads j e v) = j
  by (writes j es) = j

  -- the step is a write
  abbrev pub is_write : Step V → Bool
  is_write (reads j e v) = false
  is_write (writes j es) = true

  -- a step writes a setting
  abbrev pub writes_to : Step V → ℕ → Bool
  writes_to (reads j e v) d = false
  writes_to (writes j es) d = some_of (λ (en : ℕ × V). nat_eq en.0 d) es

  -- a step reads or writes a setting
  abbrev pub touches : Step V → ℕ → Bool
  touches (reads j e v) d = e == d
  touches (writes j es) d = some_of (λ (en : ℕ × V). nat_eq en.0 d) es

  -- two steps conflict if both touch one setting and at least one of them writes it
  abbrev pub conflict : Step V → Step V → Bool
  conflict (reads j e v) t = writes_to t e
  conflict (writes j es) t = some_of (λ (en : ℕ × V). touches t en.0) es

  -- the step is of job n and passes a test
  abbrev pub of_job : (Step V → Bool) → ℕ → Step V → Bool
  of_job f n s = by s == n && f s

  -- a conflict leads from job u to another job v: a step of u stands before a step of v, and the two conflict
  abbrev pub precedes : List (Step V) → ℕ → ℕ → Bool
  precedes [] u v = false
  precedes (s ∷ h) u v = (by s == u && not (u == v) && some_of (of_job (conflict s) v) h) || precedes h u v

  -- conflicts lead from some job back to itself
  abbrev pub HasCircle : List (Step V) → Type 0
  HasCircle h = (u : ℕ) × Walk (precedes h) anywhere u u

  -- a job is finished once it has written
  abbrev pub finishes : List (Step V) → ℕ → Bool
  finishes steps n = some_of (of_job is_write n) steps
