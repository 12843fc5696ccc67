use Rattle.std.proofs.Common.{arith, rules}
use Rattle.table_model.specs.inner.Cells.{JobCells}
use Rattle.table_model.specs.inner.WithinRun.{first_in_job}
use Rattle.settling_laws.proofs.Firsts.{job_answers, job_passed, no_job_answers, none_before-map}
use Rattle.table_runs.proofs.first_site.first_in_jobs.Goals as goal

pub loop-j-init : goal.loop-j-init
loop-j-init c = none_before-map (first_in_job c.args.runs.now c.args.r c.args.run.now) (λ (x : JobCells). x.state) c.args.jobs.now
    c.args.from c.requires.rest

pub returns-then-is_some : goal.returns-then-is_some
returns-then-is_some c =
    job_answers (first_in_job c.args.runs.now c.args.r c.args.run.now) c.args.jobs.now c.loop-j.j c.index-jobs-j.result
    c.first_in_job-site.result c.loop-j.invariant (omega arith) c.index-jobs-j.is c.first_in_job-site.ensures (search rules)

pub loop-j-preserved : goal.loop-j-preserved
loop-j-preserved c =
    job_passed (first_in_job c.args.runs.now c.args.r c.args.run.now) c.args.jobs.now c.loop-j.j c.index-jobs-j.result
    c.first_in_job-site.result c.loop-j.invariant (omega arith) c.index-jobs-j.is c.first_in_job-site.ensures (search rules)

pub returns : goal.returns
returns c =
    no_job_answers (first_in_job c.args.runs.now c.args.r c.args.run.now) c.args.jobs.now c.loop-j.j c.loop-j.invariant (omega arith)
