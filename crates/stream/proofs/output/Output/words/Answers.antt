use Rattle.std.proofs.Common.{rules}
use Rattle.stream.proofs.Lengths.{number_brief, value_brief, fault_brief, brief_same}
use Rattle.stream.proofs.output.Output.words.Goals as goal

pub returns-in-Begin-Ok-clause-brief : goal.returns-in-Begin-Ok-clause-brief
returns-in-Begin-Ok-clause-brief g c = λ h. search (rules, number_brief)

pub returns-in-Read-Ok-clause-brief : goal.returns-in-Read-Ok-clause-brief
returns-in-Read-Ok-clause-brief g c = λ h. search (rules, value_brief)

pub returns-in-Sweep-clause-brief : goal.returns-in-Sweep-clause-brief
returns-in-Sweep-clause-brief g c = λ h. search (rules, number_brief)

pub returns-in-Fault-clause-brief : goal.returns-in-Fault-clause-brief
returns-in-Fault-clause-brief g c = brief_same g.K.Kind.kind _ _ c.in-Fault.is (fault_brief c.in-Fault.fault)
