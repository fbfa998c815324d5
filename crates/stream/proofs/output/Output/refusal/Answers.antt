use Rattle.std.proofs.Common.{◌≡◌, Some, arith}
use Rattle.stream.proofs.Lengths.{no_brief, no_brief_alone}
use Rattle.stream.proofs.output.Output.refusal.Goals as goal

pub returns-in-Some-clause-brief : goal.returns-in-Some-clause-brief
returns-in-Some-clause-brief c =
    let o : Some c.from.result ≡ c.entry.result = cc in
    grind (arith, no_brief c.number.result c.from.result)

pub returns-in-None-clause-brief : goal.returns-in-None-clause-brief
returns-in-None-clause-brief c = grind (arith, no_brief_alone c.number-in-None.result)
