-- What the runs of a table satisfy, stated for all runs and for each run.
use Rattle.std.specs.Prelude.{List}
use Rattle.table_model.specs.Runs.{RunState}
use Rattle.table_model.specs.Sound.{RunsAreSound}
use Rattle.table_model.proofs.RunFits.{RunsFit, jobs_are_the_plans, jobs_fit, leases_fit, needs_come_first, run_phases_fit, runs_fit}

pub runs_that_fit : (runs : List RunState) → RunsAreSound runs → RunsFit runs
runs_that_fit runs s = runs_fit runs s.jobs_are_the_plans s.run_phases_fit s.jobs_fit s.needs_finished_first s.leases_fit

pub sound_runs : (runs : List RunState) → RunsFit runs → RunsAreSound runs
sound_runs runs fit = record {
  jobs_are_the_plans = jobs_are_the_plans runs fit;
  run_phases_fit = run_phases_fit runs fit;
  jobs_fit = jobs_fit runs fit;
  needs_finished_first = needs_come_first runs fit;
  leases_fit = leases_fit runs fit;
}
