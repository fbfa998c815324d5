use Rattle.std.proofs.Common.{sym, refl, ap}
use Rattle.commands.specs.Calls.{call_of}
use Rattle.stream.proofs.Carrying.{carries_same, carries_begin, carries_sweep, carries_read, carries_write, carries_withdraw}
use Rattle.stream.proofs.runner.Runner.carry_out.Goals as goal

pub returns-in-Begin-clause-carries : goal.returns-in-Begin-clause-carries
returns-in-Begin-clause-carries g c =
    carries_same _ _ _ _ _ _ _ (sym (ap call_of c.in-Begin.is))
    (carries_begin g.K.Kind.kind g.P.Policy.does _ _ _ _ _ _ _ c.begin.ensures.answers c.begin.ensures.leaves refl c.begin.ensures.moves c.begin.ensures.exact)

pub returns-in-Read-clause-carries : goal.returns-in-Read-clause-carries
returns-in-Read-clause-carries g c =
    carries_same _ _ _ _ _ _ _ (sym (ap call_of c.in-Read.is))
    (carries_read g.K.Kind.kind g.P.Policy.does _ _ _ _ _ _ _ _ _ c.read.ensures.answers c.read.ensures.leaves refl refl)

pub returns-in-Write-clause-carries : goal.returns-in-Write-clause-carries
returns-in-Write-clause-carries g c =
    carries_same _ _ _ _ _ _ _ (sym (ap call_of c.in-Write.is))
    (carries_write g.K.Kind.kind g.P.Policy.does _ _ _ _ _ _ _ _ _ c.write.ensures.answers c.write.ensures.leaves c.write.ensures.fills refl)

pub returns-in-Withdraw-clause-carries : goal.returns-in-Withdraw-clause-carries
returns-in-Withdraw-clause-carries g c =
    carries_same _ _ _ _ _ _ _ (sym (ap call_of c.in-Withdraw.is))
    (carries_withdraw g.K.Kind.kind g.P.Policy.does _ _ _ _ _ _ _ _ c.withdraw.ensures.answers c.withdraw.ensures.leaves refl refl)

pub returns-in-Sweep-clause-carries : goal.returns-in-Sweep-clause-carries
returns-in-Sweep-clause-carries g c =
    carries_same _ _ _ _ _ _ _ (sym (ap call_of c.in-Sweep.is))
    (carries_sweep g.K.Kind.kind g.P.Policy.does _ _ _ _ _ _ _ c.sweep.ensures.answers c.sweep.ensures.leaves refl c.sweep.ensures.moves c.sweep.ensures.exact)
