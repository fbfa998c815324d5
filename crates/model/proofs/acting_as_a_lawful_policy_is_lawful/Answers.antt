use Rattle.model.proofs.acting_as_a_lawful_policy_is_lawful.Goals as goal
use Rattle.model.proofs.Policies.{acting_lawful}

pub returns : goal.returns
returns g c = acting_lawful
