use Rattle.std.proofs.Common.{rules, sym, subst}
use Rattle.table.specs.Slots.{slot}
use Rattle.table.specs.Touching.{touched_any, Touched}
use Rattle.table.proofs.Scans.{scanned}
use Rattle.table.proofs.Touches.{touched_is}
use Rattle.table.proofs.tables.Table.touchers.Goals as goal

pub returns : goal.returns
returns c i =
    subst (Touched c.args.settings (slot c.args.self.now i))
    (sym (scanned (touched_any c.args.settings) c.args.self.now.jobs c.scan.result c.args.self.now.sized (λ k h. let a = c.scan.ensures k h in search rules) i))
    (touched_is c.args.settings (slot c.args.self.now i))
