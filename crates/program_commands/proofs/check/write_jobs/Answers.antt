use Rattle.std.proofs.Common.{◌<◌, ◌+◌, ◌++◌, drop, length, map, arith}
use Rattle.std.proofs.KnownBytes.{Appends-trans}
use Rattle.run_plan.specs.PlanOf.{planned_job}
use Rattle.program_commands.specs.Check.{job_lines, plan_lines}
use Rattle.program_commands.proofs.Checks.{job_after, next_job, none_of_jobs}
use Rattle.program_commands.proofs.Writing.{more_written, past_part, stopped}
use Rattle.program_commands.proofs.check.write_jobs.Goals as goal

pub loop-job-preserved : goal.loop-job-preserved
loop-job-preserved g c =
    let so_far = c.loop-job.invariant in
    let jobs = c.args.jobs.now in
    let n = c.loop-job.job-index in
    let job = c.job-item.result in
    let within : n < length jobs = omega arith in
    let lines = job_lines (planned_job job) in (
      so_far.0 ++ lines,
      Appends-trans _ _ _ so_far.0 lines so_far.1 c.in_ok-write_job.ensures,
      past_part so_far.0 lines _ _ (job_after so_far.0 n jobs job within c.job-item.is so_far.2),
      (none_of_jobs (drop n jobs) (drop (n + 1) jobs) job (next_job n jobs job within c.job-item.is) so_far.3).1,
    )

pub returns-in_err-write_job : goal.returns-in_err-write_job
returns-in_err-write_job g c =
    let so_far = c.loop-job.invariant in
    let within : c.loop-job.job-index < length c.args.jobs.now = omega arith in
    stopped _ _ (plan_lines (map planned_job c.args.jobs.now)) _ c.in_err-write_job.field-0.0 c.from_residual.ensures.1
    c.in_err-write_job.ensures.0
    (more_written _ _ _ so_far.0 _ _ _ so_far.1
    (job_after so_far.0 c.loop-job.job-index c.args.jobs.now c.job-item.result within c.job-item.is so_far.2) c.in_err-write_job.ensures.1)
