use Rattle.std.proofs.Common.{sym, refl}
use Rattle.values.specs.Plans.{plan_of_parts}
use Rattle.values.proofs.plans.Plan.new.Goals as goal

pub returns-then-off-le-LAST_MINUTE : goal.returns-then-off-le-LAST_MINUTE
returns-then-off-le-LAST_MINUTE c = sym (plan_of_parts c.args.on c.args.off c.args.level _ refl refl refl)
