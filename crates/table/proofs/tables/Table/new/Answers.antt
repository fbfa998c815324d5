use Rattle.table.proofs.Scans.{slot_none}
use Rattle.table.proofs.tables.Table.new.Goals as goal

pub returns-clause-slots : goal.returns-clause-slots
returns-clause-slots c = slot_none 64
