use Rattle.std.proofs.Common.{◌∙◌}
use Rattle.table_model.proofs.LegCounts.{active_counted}
use Rattle.table_model.proofs.job.Job.has_active_leg.Goals as goal

pub returns : goal.returns
returns c = c.has_active.ensures ∙ active_counted c.args.self.now.state.legs c.counts.result c.counts.ensures
