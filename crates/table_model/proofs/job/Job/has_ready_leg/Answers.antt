use Rattle.table_model.proofs.LegCounts.{ready_counted}
use Rattle.table_model.proofs.job.Job.has_ready_leg.Goals as goal

pub returns : goal.returns
returns c = ready_counted c.args.self.now.state.legs c.counts.result c.counts.ensures
