use Rattle.model.proofs.every_spaced_policy_is_exact.Goals as goal
use Rattle.model.proofs.Policies.{spaced_exact}

pub returns : goal.returns
returns g c = spaced_exact
