-- A policy that counts nothing is as lawful with any type in the place of its count.
use Rattle.std.specs.Prelude.{refl}
use Rattle.model.specs.Policies.{Policy, Lawful}
use Rattle.model.proofs.Policies.{acting_lawful}
use Rattle.policies.specs.Doing.{as_plain}

pub plain_lawful : {S : Type 0} (p : Policy (Unit {0})) → Lawful p → Lawful (as_plain {S = S} p)
plain_lawful p l = acting_lawful (λ s. tt) p (as_plain p) l (record { answers = λ c b h. refl; goes_on = λ c b h. refl; as_thorough = λ c. refl })
