use Rattle.std.proofs.Common.{rules}
use Rattle.table.proofs.Scans.{scanned}
use Rattle.table.proofs.tables.Table.held.Goals as goal

pub returns : goal.returns
returns c = scanned _ c.args.self.now.jobs c.scan.result c.args.self.now.sized (λ i h. let k = c.scan.ensures i h in search rules)
