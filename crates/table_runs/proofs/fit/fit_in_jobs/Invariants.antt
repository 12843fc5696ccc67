use Rattle.table_model.specs.inner.WithinRun.{fit_in_job}
use Rattle.table_model.specs.inner.Resuming.{NoneBefore}
use Rattle.table_runs.proofs.fit.fit_in_jobs.Given as goal

-- no job so far has a leg that fits
abbrev pub invariant-loop-j : goal.invariant-loop-j
invariant-loop-j l = NoneBefore (λ j job. fit_in_job l.labels l.runs l.r j job.state) l.jobs l.j
