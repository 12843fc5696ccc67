use Rattle.std.specs.Prelude.{◌<◌, length, refl}
use Rattle.std.proofs.Common.{arith, rules}
use Rattle.std.proofs.lemmas.Option.{slice_get_read}
use Rattle.table_model.specs.inner.WithinRun.{fit_in_job}
use Rattle.settling_laws.proofs.Firsts.{job_answers, job_passed, no_job_answers}
use Rattle.table_runs.proofs.fit.fit_in_jobs.Goals as goal

pub returns-then-is_some-clause-found : goal.returns-then-is_some-clause-found
returns-then-is_some-clause-found c =
    job_answers (fit_in_job c.args.labels.now c.args.runs.now c.args.r) c.args.jobs.now c.loop-j.j c.index-jobs-j.result
    c.fit_in_job-site.result c.loop-j.invariant (omega arith) c.index-jobs-j.is c.fit_in_job-site.ensures.found (search rules)

pub loop-j-preserved : goal.loop-j-preserved
loop-j-preserved c =
    job_passed (fit_in_job c.args.labels.now c.args.runs.now c.args.r) c.args.jobs.now c.loop-j.j c.index-jobs-j.result
    c.fit_in_job-site.result c.loop-j.invariant (omega arith) c.index-jobs-j.is c.fit_in_job-site.ensures.found (search rules)

pub returns-clause-found : goal.returns-clause-found
returns-clause-found c =
    no_job_answers (fit_in_job c.args.labels.now c.args.runs.now c.args.r) c.args.jobs.now c.loop-j.j c.loop-j.invariant (omega arith)

pub fit_in_job-site-requires : goal.fit_in_job-site-requires
fit_in_job-site-requires c =
    let jobs = c.args.jobs.now in
    let within : c.loop-j.j < length jobs = omega arith in
    c.requires c.loop-j.j c.index-jobs-j.result (slice_get_read jobs (length jobs) c.loop-j.j c.index-jobs-j.result refl within c.index-jobs-j.is)
