use Rattle.std.proofs.Common.{◌≡◌}
use Rattle.table_model.specs.inner.WithinRun.{first_leased, lease_in_run}
use Rattle.table_runs.proofs.fit.lease_in_run.Given as goal

-- the first leg that has the lease is still to come
abbrev pub invariant-loop-site : goal.invariant-loop-site
invariant-loop-site l = first_leased l.lease l.site-iterator ≡ lease_in_run l.lease l.r l.run
