use Rattle.std.proofs.Common.{◌≡◌}
use Rattle.table_model.specs.Runs.{with_run}
use Rattle.table_model.specs.Sound.{RunsAreSound}
use Rattle.table_runs.proofs.Stopping.{stopped_upto}
use Rattle.table_runs.proofs.runs.Runs.request_stop.Given as goal

-- the run is asked to stop, and the jobs before `j` are stopped where they have to be
abbrev pub invariant-loop-j : goal.invariant-loop-j
invariant-loop-j l = record {
  stopped : l.self ≡ with_run l.r (stopped_upto l.j) l.fn.self;
  sound : RunsAreSound l.self;
}
