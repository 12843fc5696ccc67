use Rattle.std.proofs.Common.{◌≡◌, ◌-◌, length}
use Rattle.table_model.specs.inner.Resuming.{NoneBefore}
use Rattle.table_model.specs.inner.WithinRun.{first_in_run}
use Rattle.table_runs.proofs.runs.Runs.first_site.Given as goal

-- the runs stay as they are, and no rule applies in those that were passed
abbrev pub invariant-loop-r : goal.invariant-loop-r
invariant-loop-r l = (l.self ≡ l.fn.self) × NoneBefore (first_in_run l.self) l.self l.run

abbrev pub decreases-loop-r : goal.decreases-loop-r
decreases-loop-r l = length l.self - l.run
