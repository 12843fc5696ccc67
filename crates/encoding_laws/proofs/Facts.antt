-- Facts about the parts of a table.
use Rattle.std.proofs.Common.{◌<◌, arith}
use Rattle.std.specs.List.{AllByRecursion}
use Rattle.wf_value.specs.declared.outcome.JobResult.TheVariants as result
use Rattle.table_model.specs.Runs.{JobState}
use Rattle.table_model.specs.declared.phases.JobPhase.{JobPhase}
use Rattle.table_model.specs.declared.phases.JobPhase.TheVariants as job_phase
use Rattle.table_text.specs.Tables.{job, job_byte, leg}
use Rattle.table_text.specs.inner.Writing.{JobHasBytes}

job_byte_fits : (p : JobPhase) → job_byte p < 256
job_byte_fits job_phase.Blocked = omega arith
job_byte_fits job_phase.Open = omega arith
job_byte_fits (job_phase.Finished result.Success) = omega arith
job_byte_fits (job_phase.Finished result.Failure) = omega arith
job_byte_fits (job_phase.Finished result.Cancelled) = omega arith
job_byte_fits (job_phase.Finished result.Skipped) = omega arith

pub job_takes : (j : JobState) → JobHasBytes j → AllByRecursion leg.Takes j.legs → job.Takes j
job_takes j has all = (job_byte_fits j.phase, (omega arith, omega (arith, has.0), all))
