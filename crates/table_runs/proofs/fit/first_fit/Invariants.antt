use Rattle.std.proofs.Common.{◌-◌, length}
use Rattle.table_model.specs.inner.WithinRun.{fit_in_run}
use Rattle.table_model.specs.inner.Resuming.{NoneBefore}
use Rattle.table_runs.proofs.fit.first_fit.Given as goal

-- no run so far has a leg that fits
abbrev pub invariant-loop-r : goal.invariant-loop-r
invariant-loop-r l = NoneBefore (fit_in_run l.labels l.runs) l.runs l.from

abbrev pub decreases-loop-r : goal.decreases-loop-r
decreases-loop-r l = length l.runs - l.from
