use Rattle.model.proofs.calls_under_a_policy_are_steps_of_a_run.Goals as goal
use Rattle.model.proofs.Sound.{under_policy}

pub returns : goal.returns
returns g c = under_policy
