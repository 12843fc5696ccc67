use Rattle.std.proofs.Common.{◌∙◌}
use Rattle.table_model.proofs.LegCounts.{unready_counted}
use Rattle.table_model.proofs.job.Job.has_unready_leg.Goals as goal

pub returns : goal.returns
returns c = c.has_unready.ensures ∙ unready_counted c.args.self.now.state.legs c.counts.result c.counts.ensures
