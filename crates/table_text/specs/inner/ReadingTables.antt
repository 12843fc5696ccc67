-- Reading of a table as a function, field by field.
use Rattle.std.specs.Str.{is_utf8}
use Rattle.std.specs.Prelude.{ℕ, ◌==◌, List, [], ◌∷◌, find, Bool, true, false, not, if◌then◌else◌, Option, Some, None}
use Rattle.definitions.specs.Limits.{max_runs}
use Rattle.wf_value.specs.declared.outcome.JobResult.TheVariants as result
use Rattle.wf_value.specs.declared.outcome.Outcome.TheVariants as outcome
use Rattle.definitions.specs.SmallText.{Admitted, is_delivery_byte, is_runner_byte}
use Rattle.run_plan.specs.declared.command.Claim.{Claim}
use Rattle.run_plan.specs.declared.command.Done.{Done}
use Rattle.run_plan.specs.declared.command.Command.{Command}
use Rattle.run_plan.specs.declared.command.Command.TheVariants as requested
use Rattle.stored_tables.specs.Stored.{RunnerParts, TableParts, is_new}
use Rattle.table_model.specs.Forgotten.{ForgottenRuns, WorkflowCount}
use Rattle.table_model.specs.Parts.{RunParts}
use Rattle.table_model.specs.Runs.{LegState, JobState}
use Rattle.stored_tables.specs.declared.parts.LastParts.{LastParts}
use Rattle.stored_tables.specs.declared.parts.LastParts.TheVariants as last
use Rattle.stored_tables.specs.declared.parts.StoredLease.{StoredLease}
use Rattle.stored_tables.specs.declared.parts.StoredSite.{StoredSite}
use Rattle.table_model.specs.declared.phases.JobPhase.{JobPhase}
use Rattle.table_model.specs.declared.phases.JobPhase.TheVariants as job_phase
use Rattle.table_model.specs.declared.phases.LegPhase.{LegPhase}
use Rattle.table_model.specs.declared.phases.LegPhase.TheVariants as leg_phase
use Rattle.table_model.specs.declared.phases.RunPhase.{RunPhase}
use Rattle.table_model.specs.declared.phases.RunPhase.TheVariants as run_phase
use Rattle.table_text.specs.declared.kept.StoredReply.{StoredReply}
use Rattle.table_text.specs.declared.kept.StoredReply.TheVariants as replied
use Rattle.command_encodings.specs.Commands.{is_numbered}
use Rattle.command_encodings.specs.inner.Reading.{Reader, byte_at, counted_at, follow_at, items_at, only_at, pair_at, parts_at, present_at, some_at, text_at, word_at}
use Rattle.command_encodings.specs.inner.ReadingCommands.{admit_at, command_at, number_at, small_text_at}
use Rattle.table_text.specs.Tables.{deliveries_kept, flag_byte, is_attempt, is_last_id, is_last_lease, job_byte, jobs_planned, leg_byte, names_rise, run_byte}

-- 0 means none
abbrev pub optional_lease : ℕ → Option ℕ
optional_lease n = if n == 0 then None else Some n

-- other numbers are leases up to 999,999,999
abbrev pub lease_of : ℕ → Option (Option ℕ)
lease_of n = if n == 0 then Some None else (if is_numbered n then Some (Some n) else None)

unfoldable pub lease_at : Reader (Option ℕ)
lease_at bytes = some_at lease_of word_at bytes

-- the first of the values that has this byte
abbrev pub of_byte : {A : Type 0} → (A → ℕ) → List A → ℕ → Option A
of_byte code values b = find (λ x. b == code x) values

abbrev pub leg_phases : List LegPhase
leg_phases =
    leg_phase.New ∷ leg_phase.Waiting ∷ leg_phase.Ready ∷ leg_phase.Running ∷ leg_phase.Stopping ∷ leg_phase.Ended outcome.Success
    ∷ leg_phase.Ended outcome.Failure ∷ leg_phase.Ended outcome.Cancelled ∷ []

abbrev pub job_phases : List JobPhase
job_phases =
    job_phase.Blocked ∷ job_phase.Open ∷ job_phase.Finished result.Success ∷ job_phase.Finished result.Failure ∷ job_phase.Finished
    result.Cancelled
    ∷ job_phase.Finished result.Skipped ∷ []

abbrev pub run_phases : List RunPhase
run_phases = run_phase.Waiting ∷ run_phase.Live ∷ run_phase.Ended ∷ []

abbrev pub flags : List Bool
flags = false ∷ true ∷ []

unfoldable pub leg_phase_at : Reader LegPhase
leg_phase_at bytes = only_at (λ p. not (is_new p)) (some_at (of_byte leg_byte leg_phases) byte_at) bytes

unfoldable pub job_phase_at : Reader JobPhase
job_phase_at bytes = some_at (of_byte job_byte job_phases) byte_at bytes

unfoldable pub run_phase_at : Reader RunPhase
run_phase_at bytes = some_at (of_byte run_byte run_phases) byte_at bytes

unfoldable pub flag_at : Reader Bool
flag_at bytes = some_at (of_byte flag_byte flags) byte_at bytes

unfoldable pub leg_at : Reader LegState
leg_at bytes = parts_at (λ (p : LegPhase × Option ℕ). record { phase = p.0; lease = p.1 }) (pair_at leg_phase_at lease_at) bytes

unfoldable pub job_at : Reader JobState
job_at bytes = parts_at (λ (p : JobPhase × List LegState). record { phase = p.0; legs = p.1 })
    (pair_at job_phase_at (counted_at 0 4294967295 leg_at)) bytes

unfoldable pub attempt_at : Reader ℕ
attempt_at bytes = only_at is_attempt word_at bytes

-- the attempt, the phase, the stop flag and the jobs of the plan
unfoldable pub course_at : Admitted → Reader (ℕ × (RunPhase × (Bool × List JobState)))
course_at a bytes = pair_at attempt_at (pair_at run_phase_at (pair_at flag_at (items_at job_at (jobs_planned a)))) bytes

unfoldable pub run_at : Reader RunParts
run_at bytes =
    parts_at (λ (p : Admitted × (ℕ × (RunPhase × (Bool × List JobState)))). record
    { admitted = p.0; attempt = p.1.0; phase = p.1.1.0; stopping = p.1.1.1.0; jobs = p.1.1.1.1 })
    (follow_at admit_at course_at) bytes

-- ---- runners

unfoldable pub place_at : Reader StoredSite
place_at bytes =
    parts_at (λ (p : ℕ × (ℕ × (ℕ × ℕ))). record { run = p.0; attempt = p.1.0; job = p.1.1.0; leg = p.1.1.1 })
    (pair_at number_at (pair_at number_at (pair_at word_at word_at))) bytes

unfoldable pub kept_lease_at : Reader StoredLease
kept_lease_at bytes =
    parts_at (λ (p : ℕ × Option StoredSite). record { lease = p.0; place = p.1 }) (pair_at number_at (present_at place_at)) bytes

-- the bytes after the byte of a kept reply
unfoldable pub kept_of : ℕ → Reader StoredReply
kept_of reply rest =
    if reply == 0 then Some (replied.Nothing, rest)
    else (if reply == 1 then parts_at (λ (l : StoredLease). replied.Leased l) kept_lease_at rest
    else (if reply == 2 then Some (replied.Done, rest) else None))

unfoldable pub kept_at : Reader StoredReply
kept_at [] = None
kept_at (reply ∷ rest) = kept_of reply rest

abbrev pub claim_with : Claim → StoredReply → Option LastParts
claim_with claim replied.Nothing = Some (last.Claim claim None)
claim_with claim (replied.Leased l) = Some (last.Claim claim (Some l))
claim_with claim replied.Done = None

abbrev pub report_with : Done → StoredReply → Option LastParts
report_with report replied.Nothing = None
report_with report (replied.Leased l) = None
report_with report replied.Done = Some (last.Done report)

abbrev pub last_with : Command → StoredReply → Option LastParts
last_with (requested.Admit event) kept = None
last_with (requested.Claim claim) kept = claim_with claim kept
last_with (requested.Done report) kept = report_with report kept
last_with (requested.Beat requests) kept = None
last_with (requested.Cancel run) kept = None
last_with (requested.Lost runner) kept = None
last_with (requested.Look run) kept = None
last_with (requested.Fetch run) kept = None
last_with (requested.Rerun requests) kept = None
last_with (requested.Forget run) kept = None
last_with (requested.Discharge runner) kept = None

abbrev pub last_of : Command × StoredReply → Option LastParts
last_of p = last_with p.0 p.1

unfoldable pub last_at : Reader LastParts
last_at bytes = some_at last_of (pair_at command_at kept_at) bytes

unfoldable pub runner_at : Reader RunnerParts
runner_at bytes =
    parts_at (λ (p : List ℕ × (ℕ × (LastParts × Option ℕ))). record { name = p.0; number = p.1.0; last = p.1.1.0; holds = p.1.1.1 })
    (pair_at (small_text_at is_runner_byte) (pair_at number_at (pair_at last_at lease_at))) bytes

-- ---- what is kept of forgotten runs

unfoldable pub name_at : Reader (List ℕ)
name_at bytes = only_at is_utf8 text_at bytes

unfoldable pub count_at : Reader WorkflowCount
count_at bytes =
    parts_at (λ (p : List ℕ × (List ℕ × ℕ)). record { repo = p.0; path = p.1.0; runs = p.1.1 })
    (pair_at name_at (pair_at name_at number_at)) bytes

unfoldable pub last_id_at : Reader ℕ
last_id_at bytes = only_at is_last_id word_at bytes

-- the counts, and the deliveries that are kept of so many forgotten runs
unfoldable pub kept_of_forgotten_at : ℕ → Reader (List WorkflowCount × List (List ℕ))
kept_of_forgotten_at n bytes =
    pair_at (counted_at 0 4294967295 count_at) (items_at (small_text_at is_delivery_byte) (deliveries_kept n)) bytes

unfoldable pub forgotten_at : Reader ForgottenRuns
forgotten_at bytes =
    parts_at (λ (p : ℕ × (List WorkflowCount × List (List ℕ))). record { through = p.0; counts = p.1.0; deliveries = p.1.1 })
    (follow_at last_id_at kept_of_forgotten_at) bytes

-- ---- tables

unfoldable pub last_lease_at : Reader ℕ
last_lease_at bytes = only_at is_last_lease word_at bytes

unfoldable pub runs_at : Reader (List RunParts)
runs_at bytes = counted_at 0 max_runs run_at bytes

unfoldable pub runners_at : Reader (List RunnerParts)
runners_at bytes = only_at names_rise (counted_at 0 4294967295 runner_at) bytes

unfoldable pub table_at : Reader TableParts
table_at bytes =
    parts_at (λ (p : ℕ × (ForgottenRuns × (List RunParts × List RunnerParts))). record
    { last_lease = p.0; forgotten = p.1.0; runs = p.1.1.0; runners = p.1.1.1 })
    (pair_at last_lease_at (pair_at forgotten_at (pair_at runs_at runners_at))) bytes
