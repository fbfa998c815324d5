-- What the plain policies do: each keeps no count, so its value stands.
use Rattle.model.specs.Policies.{Policy, never, clear, stale, thorough_one}
use Rattle.policies.specs.declared.plain.Never.{Never}
use Rattle.policies.specs.declared.plain.Clear.{Clear}
use Rattle.policies.specs.declared.plain.Stale.{Stale}
use Rattle.policies.specs.declared.plain.Thorough.{Thorough}

-- a policy that counts nothing, with any type in the place of its count
abbrev pub as_plain : {S : Type 0} → Policy (Unit {0}) → Policy S
as_plain p = record { answer = λ s b. p.answer tt b; next = λ s b. s; thorough = λ s. p.thorough tt }

abbrev pub never_does : Policy Never
never_does = as_plain never

abbrev pub clear_does : Policy Clear
clear_does = as_plain clear

abbrev pub stale_does : Policy Stale
stale_does = as_plain stale

abbrev pub thorough_does : Policy Thorough
thorough_does = as_plain thorough_one
