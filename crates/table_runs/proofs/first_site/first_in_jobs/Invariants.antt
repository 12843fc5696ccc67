use Rattle.table_model.specs.inner.WithinRun.{first_in_job}
use Rattle.table_model.specs.inner.Resuming.{NoneBefore}
use Rattle.table_runs.proofs.first_site.first_in_jobs.Given as goal

-- no job so far has a site where a rule applies
abbrev pub invariant-loop-j : goal.invariant-loop-j
invariant-loop-j l = NoneBefore (λ j job. first_in_job l.runs l.r l.run j job.state) l.jobs l.j
