-- The encoding of a table.
use Rattle.std.specs.Prelude.{ℕ, List, [], ◌∷◌, length, ◌&&◌, Bool, true, false, not, min, nat_le, Option, Some, None}
use Rattle.std.specs.Str.{is_utf8}
use Rattle.definitions.specs.Limits.{last_attempt, last_number, max_runs}
use Rattle.definitions.specs.Rising.{rises_by}
use Rattle.wf_value.specs.declared.outcome.JobResult.TheVariants as result
use Rattle.wf_value.specs.declared.outcome.Outcome.TheVariants as outcome
use Rattle.definitions.specs.SmallText.{Admitted, is_delivery_byte, is_runner_byte}
use Rattle.run_plan.specs.PlanOf.{plan_of}
use Rattle.run_plan.specs.declared.command.Command.{Command}
use Rattle.run_plan.specs.declared.command.Command.TheVariants as requested
use Rattle.stored_tables.specs.Stored.{RunnerParts, TableParts, is_new, stored_table}
use Rattle.table_model.specs.Forgotten.{ForgottenRuns, WorkflowCount, max_kept_deliveries}
use Rattle.table_model.specs.Parts.{RunParts}
use Rattle.table_model.specs.Runs.{LegState, JobState}
use Rattle.stored_tables.specs.declared.parts.LastParts.{LastParts}
use Rattle.stored_tables.specs.declared.parts.LastParts.TheVariants as last
use Rattle.stored_tables.specs.declared.parts.StoredLease.{StoredLease}
use Rattle.stored_tables.specs.declared.parts.StoredSite.{StoredSite}
use Rattle.table_model.specs.declared.phases.JobPhase.{JobPhase}
use Rattle.table_model.specs.declared.phases.JobPhase.TheVariants as job_phase
use Rattle.table_model.specs.declared.phases.LegPhase.{LegPhase}
use Rattle.table_model.specs.declared.phases.LegPhase.TheVariants as leg_phase
use Rattle.table_model.specs.declared.phases.RunPhase.{RunPhase}
use Rattle.table_model.specs.declared.phases.RunPhase.TheVariants as run_phase
use Rattle.table_text.specs.declared.kept.StoredReply.{StoredReply}
use Rattle.table_text.specs.declared.kept.StoredReply.TheVariants as replied
use Rattle.command_encodings.specs.Commands.{admit, command, number, small_text}
use Rattle.definitions.specs.Format.{Format, byte, counted, follow, only, pair, parts, present, row, text, word, word_bytes}
use Rattle.table_model.specs.Sound.{IsSound}
use Rattle.table_model.specs.TableState.{TableState}

-- ---- the encoding of a table, field by field, in the third layout, which is the one written. The bytes of a run do not contain the number of
-- its jobs: it follows from the body's plan. This is defined by this project.

-- ---- leases

-- 0 means none
abbrev pub lease_word : Option ℕ → ℕ
lease_word None = 0
lease_word (Some n) = n

abbrev pub IsLease : Option ℕ → Type 0
IsLease None = Unit {0}
IsLease (Some n) = number.Takes n

abbrev pub lease : Format (Option ℕ)
lease = record { Takes = IsLease; encoding = λ l. word_bytes (lease_word l) }

-- ---- what is kept of forgotten runs

-- a repository or a path, in UTF-8
abbrev pub name : Format (List ℕ)
name = only is_utf8 text

-- a workflow, and how many of its runs are forgotten
abbrev pub count : Format WorkflowCount
count = parts (λ (c : WorkflowCount). (c.repo, (c.path, c.runs))) (pair name (pair name number))

-- up to 999,999,999
abbrev pub is_last_id : ℕ → Bool
is_last_id n = nat_le n last_number

-- of how many of the last forgotten runs the deliveries are kept, where so many are forgotten
abbrev pub deliveries_kept : ℕ → ℕ
deliveries_kept forgotten = min forgotten max_kept_deliveries

-- how many are forgotten, the counts of their workflows, and the deliveries of the last of them without a count
abbrev pub forgotten : Format ForgottenRuns
forgotten = parts (λ (f : ForgottenRuns). (f.through, (f.counts, f.deliveries)))
    (follow (only is_last_id word)
    (λ n. pair (counted 0 4294967295 count) (row (deliveries_kept n) (small_text is_delivery_byte))))

-- ---- runs

-- no table at a fixpoint has a new leg, and its byte is not read
abbrev pub leg_byte : LegPhase → ℕ
leg_byte leg_phase.New = 0
leg_byte leg_phase.Waiting = 1
leg_byte leg_phase.Ready = 2
leg_byte leg_phase.Running = 3
leg_byte leg_phase.Stopping = 4
leg_byte (leg_phase.Ended outcome.Success) = 5
leg_byte (leg_phase.Ended outcome.Failure) = 6
leg_byte (leg_phase.Ended outcome.Cancelled) = 7

abbrev pub job_byte : JobPhase → ℕ
job_byte job_phase.Blocked = 0
job_byte job_phase.Open = 1
job_byte (job_phase.Finished result.Success) = 2
job_byte (job_phase.Finished result.Failure) = 3
job_byte (job_phase.Finished result.Cancelled) = 4
job_byte (job_phase.Finished result.Skipped) = 5

abbrev pub run_byte : RunPhase → ℕ
run_byte run_phase.Waiting = 0
run_byte run_phase.Live = 1
run_byte run_phase.Ended = 2

abbrev pub flag_byte : Bool → ℕ
flag_byte false = 0
flag_byte true = 1

-- the phase and the lease
abbrev pub leg : Format LegState
leg = parts (λ (l : LegState). (l.phase, l.lease)) (pair (only (λ p. not (is_new p)) (parts leg_byte byte)) lease)

-- the phase and the legs
abbrev pub job : Format JobState
job = parts (λ (j : JobState). (j.phase, j.legs)) (pair (parts job_byte byte) (counted 0 4294967295 leg))

-- an attempt of a run: 1 to 1,000
abbrev pub is_attempt : ℕ → Bool
is_attempt n = nat_le 1 n && nat_le n last_attempt

-- the number of jobs in the plan of an admitted body
abbrev pub jobs_planned : Admitted → ℕ
jobs_planned a = length (plan_of a.body)

-- what was admitted, the attempt, the phase, the stop flag and the jobs of the plan
abbrev pub run : Format RunParts
run = parts (λ (r : RunParts). (r.admitted, (r.attempt, (r.phase, (r.stopping, r.jobs)))))
    (follow admit (λ a. pair (only is_attempt word) (pair (parts run_byte byte) (pair (parts flag_byte byte) (row (jobs_planned a) job)))))

-- ---- runners

-- the place of a leg in an attempt: the run's id, the attempt, the job's index, and the leg's number
abbrev pub place : Format StoredSite
place = parts (λ (p : StoredSite). (p.run, (p.attempt, (p.job, p.leg)))) (pair number (pair number (pair word word)))

-- a kept lease with the place of its leg
abbrev pub kept_lease : Format StoredLease
kept_lease = parts (λ (l : StoredLease). (l.lease, l.place)) (pair number (present place))

-- The kept reply to a last command: nothing or a lease for a claim, ok for a report.
abbrev pub IsKept : StoredReply → Type 0
IsKept replied.Nothing = Unit {0}
IsKept (replied.Leased l) = kept_lease.Takes l
IsKept replied.Done = Unit {0}

-- Its byte, and the lease if there is one.
abbrev pub kept_bytes : StoredReply → List ℕ
kept_bytes replied.Nothing = 0 ∷ []
kept_bytes (replied.Leased l) = 1 ∷ kept_lease.encoding l
kept_bytes replied.Done = 2 ∷ []

abbrev pub kept : Format StoredReply
kept = record { Takes = IsKept; encoding = kept_bytes }

-- the command and its kept reply
abbrev pub last_parts : LastParts → Command × StoredReply
last_parts (last.Claim claim None) = (requested.Claim claim, replied.Nothing)
last_parts (last.Claim claim (Some l)) = (requested.Claim claim, replied.Leased l)
last_parts (last.Done report) = (requested.Done report, replied.Done)

abbrev pub last_command : Format LastParts
last_command = parts last_parts (pair command kept)

-- the name, the last number, the last command with its reply, and the lease that the runner holds
abbrev pub runner : Format RunnerParts
runner = parts (λ (r : RunnerParts). (r.name, (r.number, (r.last, r.holds))))
    (pair (small_text is_runner_byte) (pair number (pair last_command lease)))

-- ---- tables

-- up to 999,999,999
abbrev pub is_last_lease : ℕ → Bool
is_last_lease n = nat_le n last_number

-- names strictly increase in byte order
abbrev pub names_rise : List RunnerParts → Bool
names_rise runners = rises_by (λ r. r.name) runners

-- the runs in the order of their ids, and the runners in the order of their names
abbrev pub runs_and_runners : Format (List RunParts × List RunnerParts)
runs_and_runners = pair (counted 0 max_runs run) (only names_rise (counted 0 4294967295 runner))

-- the last lease, what is kept of the forgotten runs, the other runs, and the runners
abbrev pub table : Format TableParts
table = parts (λ (t : TableParts). (t.last_lease, (t.forgotten, (t.runs, t.runners))))
    (pair (only is_last_lease word) (pair forgotten runs_and_runners))

-- ---- the encoding of a whole table: a sound table is encoded as its stored parts.

abbrev pub whole_table : Format TableState
whole_table = record { Takes = λ t. IsSound t × table.Takes (stored_table t); encoding = λ t. table.encoding (stored_table t) }
