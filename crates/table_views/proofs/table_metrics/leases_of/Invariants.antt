use Rattle.std.proofs.Common.{◌≡◌, take}
use Rattle.table_views.specs.TableMetrics.{leases_of}
use Rattle.table_views.proofs.table_metrics.leases_of.Given as goal

-- the leases of the runners so far
abbrev pub invariant-loop-runner : goal.invariant-loop-runner
invariant-loop-runner l = l.count ≡ leases_of (take l.runner-index l.runners)
