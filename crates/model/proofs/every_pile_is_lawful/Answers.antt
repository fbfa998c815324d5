use Rattle.model.proofs.every_pile_is_lawful.Goals as goal
use Rattle.model.proofs.Policies.{pile_lawful}

pub returns : goal.returns
returns g c = pile_lawful
