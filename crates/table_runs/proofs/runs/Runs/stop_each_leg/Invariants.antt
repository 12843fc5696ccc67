use Rattle.std.proofs.Common.{◌≡◌}
use Rattle.table_model.specs.Runs.{with_job}
use Rattle.table_model.specs.Sound.{RunsAreSound}
use Rattle.table_runs.proofs.Stopping.{legs_upto}
use Rattle.table_runs.proofs.runs.Runs.stop_each_leg.Given as goal

-- the legs before `l` are stopped
abbrev pub invariant-loop-l : goal.invariant-loop-l
invariant-loop-l l = record {
  stopped : l.self ≡ with_job l.r l.j (legs_upto l.l) l.fn.self;
  sound : RunsAreSound l.self;
}
