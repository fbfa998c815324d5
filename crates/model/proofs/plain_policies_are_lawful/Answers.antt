use Rattle.model.proofs.plain_policies_are_lawful.Goals as goal
use Rattle.model.proofs.Policies.{never_lawful, clear_lawful, stale_lawful, thorough_lawful}

pub returns : goal.returns
returns c = record { never = never_lawful; clear = clear_lawful; stale = stale_lawful; thorough = thorough_lawful }
