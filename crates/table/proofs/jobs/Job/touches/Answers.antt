use Rattle.table.proofs.Touches.{shared_any}
use Rattle.table.proofs.jobs.Job.touches.Goals as goal

pub returns : goal.returns
returns c = shared_any c.args.settings c.args.self c.touched.result c.shares.result c.touched.ensures c.shares.ensures
