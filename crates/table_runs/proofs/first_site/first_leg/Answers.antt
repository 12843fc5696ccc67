use Rattle.std.proofs.Common.{sym, ◌∙◌}
use Rattle.table_model.proofs.LegCounts.{no_leg_moves}
use Rattle.table_runs.proofs.first_site.first_leg.Goals as goal

pub returns-else-has_unready_leg : goal.returns-else-has_unready_leg
returns-else-has_unready_leg c =
    no_leg_moves c.args.runs.now c.args.r c.args.j c.args.job.now.state.legs
    (sym c.has_unready_leg.ensures ∙ c.if-has_unready_leg.false)
