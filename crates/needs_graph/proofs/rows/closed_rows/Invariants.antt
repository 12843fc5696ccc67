use Rattle.std.proofs.Common.{◌≡◌}
use Rattle.needs_graph.specs.inner.JobBitmap.{closed}
use Rattle.needs_graph.proofs.rows.closed_rows.Given as goal

abbrev pub invariant-loop-job : goal.invariant-loop-job
invariant-loop-job l = l.reached.items ≡ closed l.job l.initial.reached.items
