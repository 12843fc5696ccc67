use Rattle.table_runs.proofs.PlannedLegs.{have_room}
use Rattle.table_runs.proofs.fit.fit_in_run.Goals as goal

pub fit_in_jobs-requires : goal.fit_in_jobs-requires
fit_in_jobs-requires c =
    have_room c.args.runs.now c.args.r c.args.run.now c.planned_jobs.result.now c.requires c.planned_jobs.ensures.rooms
