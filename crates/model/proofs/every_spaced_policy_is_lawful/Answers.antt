use Rattle.model.proofs.every_spaced_policy_is_lawful.Goals as goal
use Rattle.model.proofs.Policies.{spaced_lawful}

pub returns : goal.returns
returns g c = spaced_lawful
