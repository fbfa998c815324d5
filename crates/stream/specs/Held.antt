-- What a runner holds.
use Rattle.std.specs.Prelude.{◌≡◌}
use Rattle.book.specs.State.{model}
use Rattle.stream.specs.declared.runner.Runner.{Runner}
use Rattle.stream.specs.States.{State, state}

module _ {K P : Type 0} where
  -- the book, the row and the policy
  abbrev pub held : Runner K P → State K P
  held r = state (model r.book.now) r.row.now r.policy.now

  -- they are those that it held before, changed where they stand
  pub record SameHeld (before after : Runner K P) : Type 0 where
    pub book : after.book.ghost_name ≡ before.book.ghost_name
    pub row : after.row.ghost_name ≡ before.row.ghost_name
    pub policy : after.policy.ghost_name ≡ before.policy.ghost_name
