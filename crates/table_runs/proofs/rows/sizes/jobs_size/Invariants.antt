use Rattle.table_runs.proofs.StoredSizes.{AreSizedBelow, counts_of}
use Rattle.table_runs.proofs.rows.sizes.jobs_size.Given as goal

abbrev pub invariant-loop-job : goal.invariant-loop-job
invariant-loop-job l = AreSizedBelow l.size (counts_of l.jobs) l.job-index
