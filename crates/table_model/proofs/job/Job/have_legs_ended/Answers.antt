use Rattle.std.specs.Prelude.{not}
use Rattle.std.proofs.Common.{ap, ◌∙◌}
use Rattle.table_model.proofs.LegCounts.{ended_counted}
use Rattle.table_model.proofs.job.Job.have_legs_ended.Goals as goal

pub returns : goal.returns
returns c = ap not c.has_unended.ensures ∙ ended_counted c.args.self.now.state.legs c.counts.result c.counts.ensures
