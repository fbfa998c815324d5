-- Running the finished jobs singly, one after another.
use Rattle.std.specs.Prelude.{◌≡◌, ℕ, T, List, [], ◌∷◌, Some, filter, nat_eq}
use Rattle.std.specs.List.{slice_get}
use Rattle.model.specs.Lists.{among, Distinct}
use Rattle.model.specs.Conflicts.{Step, by, precedes, finishes}
use Rattle.model.specs.Conflicts.Step.{reads, writes}
use Rattle.model.specs.Calls.{put_all}

module _ {V : Type 0} where
  -- the steps of one job, in their order
  abbrev pub steps_by : ℕ → List (Step V) → List (Step V)
  steps_by n steps = filter (λ s. nat_eq (by s) n) steps

  -- steps are executed on a row, in their order, and leave a row: each read finds the value that it gave
  pub data Executes : List V → List (Step V) → List V → Type 0 where
    none_left : {row : List V} → Executes row [] row
    reading : {row row' : List V} {j e : ℕ} {v : V} {rest : List (Step V)}
        → slice_get row e ≡ Some v → Executes row rest row' → Executes row (reads j e v ∷ rest) row'
    writing : {row row' : List V} {j : ℕ} {es : List (ℕ × V)} {rest : List (Step V)}
        → Executes (put_all row es) rest row' → Executes row (writes j es ∷ rest) row'

  -- the jobs of a list are executed one after another, each with all its steps
  pub data Serially (steps : List (Step V)) : List V → List ℕ → List V → Type 0 where
    all_run : {row : List V} → Serially steps row [] row
    then_run : {row row' row'' : List V} {n : ℕ} {ns : List ℕ}
        → Executes row (steps_by n steps) row' → Serially steps row' ns row'' → Serially steps row (n ∷ ns) row''

  -- no conflict leads from a job of the list to one that stands before it
  abbrev pub InOrder : List (Step V) → List ℕ → Type 0
  InOrder steps [] = Unit {0}
  InOrder steps (n ∷ ns) = ((m : ℕ) → T (among m ns) → T (precedes steps m n) → ⊥) × InOrder steps ns

  -- an order of the finished jobs, each once, that keeps the conflicts
  pub record KeepsConflicts (steps : List (Step V)) (order : List ℕ) : Type 0 where
    pub distinct : Distinct order
    pub complete : (n : ℕ) → T (finishes steps n) → T (among n order)
    pub only : (n : ℕ) → T (among n order) → T (finishes steps n)
    pub in_order : InOrder steps order
