-- Walks in a directed graph whose places are numbers and whose arrows are given by a test.
use Rattle.std.specs.Prelude.{ℕ, Bool, true, ◌&&◌, ◌||◌, T, ◌==◌}

-- a walk of one arrow or more, with every place strictly between its ends passing the test `inner`
pub data Walk (arrow : ℕ → ℕ → Bool) (inner : ℕ → Bool) : ℕ → ℕ → Type 0 where
  one : {p q : ℕ} → T (arrow p q) → Walk arrow inner p q
  more : {p r q : ℕ} → T (arrow p r) → T (inner r) → Walk arrow inner r q → Walk arrow inner p q

-- the test that every place passes
abbrev pub anywhere : ℕ → Bool
anywhere n = true

-- the answer is yes exactly when a walk leads from p to q
abbrev pub Answers : (ℕ → ℕ → Bool) → (ℕ → Bool) → ℕ → ℕ → Bool → Type 0
Answers arrow inner p q answer = (T answer → Walk arrow inner p q) × (Walk arrow inner p q → T answer)

-- the arrows that leave `start` or a place that passes the test `inner`
abbrev pub through : (ℕ → ℕ → Bool) → ℕ → (ℕ → Bool) → ℕ → ℕ → Bool
through arrow start inner p q = (p == start || inner p) && arrow p q
