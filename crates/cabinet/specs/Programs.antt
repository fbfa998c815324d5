-- What the two programs begin with: every setting at one value, and a new policy.
use Rattle.std.specs.Prelude.{List, replicate}
use Rattle.std.proofs.Common.{lit<, lit≤}
use Rattle.model.specs.Policies.{Policy}
use Rattle.values.specs.declared.levels.Level.{Level}
use Rattle.values.specs.declared.plans.Plan.{Plan}
use Rattle.policies.specs.declared.plain.Clear.{Clear}
use Rattle.policies.specs.declared.plain.Stale.{Stale}
use Rattle.policies.specs.declared.plain.Thorough.{Thorough}
use Rattle.policies.specs.declared.piles.Pile.{Pile}
use Rattle.policies.specs.declared.spaced.Spaced.{Spaced}
use Rattle.policies.specs.Doing.{clear_does, stale_does, thorough_does}
use Rattle.policies.specs.Made.{pile_does, spaced_does}
use Rattle.cabinet.specs.Lines.{settings}

-- levels: all at 1000, under a pile of clear and thorough

abbrev pub full : Level
full = record { value = 1000; ranged = lit≤ tt }

abbrev pub level_row : List Level
level_row = replicate settings full

abbrev pub level_policy : Policy (Pile Clear Thorough)
level_policy = pile_does clear_does thorough_does

abbrev pub level_count : Pile Clear Thorough
level_count = record { first = record {}; second = record {} }

-- plans: all on from minute 360 to minute 1080 at 1000, under a pile of stale and a policy that passes every third question
-- on to thorough

abbrev pub first_plan : Plan
first_plan = record { on = 360; off = 1080; level = full; ordered = lit< tt; ranged = lit≤ tt }

abbrev pub plan_row : List Plan
plan_row = replicate settings first_plan

abbrev pub plan_policy : Policy (Pile Stale (Spaced Thorough))
plan_policy = pile_does stale_does (spaced_does thorough_does)

abbrev pub plan_count : Pile Stale (Spaced Thorough)
plan_count = record { first = record {}; second = record { every = 3; kept = 0; under = record {} } }
