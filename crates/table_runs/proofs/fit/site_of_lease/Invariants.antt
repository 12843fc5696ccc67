use Rattle.std.proofs.Common.{◌-◌, length}
use Rattle.table_model.specs.inner.WithinRun.{lease_in_run}
use Rattle.table_model.specs.inner.Resuming.{NoneBefore}
use Rattle.table_runs.proofs.fit.site_of_lease.Given as goal

-- no run so far has a leg with the lease
abbrev pub invariant-loop-r : goal.invariant-loop-r
invariant-loop-r l = NoneBefore (lease_in_run l.lease) l.runs l.from

abbrev pub decreases-loop-r : goal.decreases-loop-r
decreases-loop-r l = length l.runs - l.from
