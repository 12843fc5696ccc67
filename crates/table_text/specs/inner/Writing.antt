-- What is known of runs, jobs and kept leases before they are written.
use Rattle.std.specs.Prelude.{◌≡◌, ◌<◌, ◌≤◌, ◌^◌, length, false}
use Rattle.std.specs.List.{AllByRecursion}
use Rattle.run_plan.specs.declared.last_command.ClaimReply.TheVariants as given
use Rattle.run_plan.specs.declared.last_command.LastCommand.{LastCommand}
use Rattle.run_plan.specs.declared.last_command.LastCommand.TheVariants as last
use Rattle.table_model.specs.Sound.{AttemptIsGiven}
use Rattle.stored_tables.specs.Stored.{is_new}
use Rattle.table_model.specs.Runs.{LegState, JobState, RunState}
use Rattle.table_text.specs.Tables.{jobs_planned}

-- a leg that has a byte
abbrev pub HasByte : LegState → Type 0
HasByte l = is_new l.phase ≡ false

-- a job with at most 256 legs, all of which have bytes
abbrev pub JobHasBytes : JobState → Type 0
JobHasBytes j = (length j.legs ≤ 256) × AllByRecursion HasByte j.legs

-- a run with exactly the jobs of its plan, all of which have bytes, at a valid attempt
abbrev pub RunHasBytes : RunState → Type 0
RunHasBytes r = (length r.jobs ≡ jobs_planned r.admitted) × AllByRecursion JobHasBytes r.jobs × AttemptIsGiven r

-- a kept lease has a job and a leg whose indices fit in four bytes
abbrev pub KeptHasBytes : LastCommand → Type 0
KeptHasBytes (last.Claim claim given.Nothing) = Unit {0}
KeptHasBytes (last.Claim claim (given.Lease kept)) = (kept.job < 2 ^ 32) × (kept.lease_reply.leg < 2 ^ 32)
KeptHasBytes (last.Done report) = Unit {0}
