-- Reading of a table in the first layout as a function, where it differs from the second layout.
use Rattle.std.specs.Prelude.{ℕ, ◌==◌, List, Bool, if◌then◌else◌, Option, Some, None}
use Rattle.definitions.specs.Limits.{max_runs}
use Rattle.definitions.specs.SmallText.{Admitted, is_runner_byte}
use Rattle.stored_tables.specs.Stored.{RunnerParts, TableParts}
use Rattle.stored_tables.specs.declared.parts.LastParts.{LastParts}
use Rattle.table_model.specs.Forgotten.{ForgottenRuns, none_forgotten}
use Rattle.table_model.specs.Parts.{RunParts}
use Rattle.table_model.specs.Runs.{JobState}
use Rattle.table_model.specs.declared.phases.RunPhase.{RunPhase}
use Rattle.table_text.specs.declared.kept.StoredReply.{StoredReply}
use Rattle.table_text.specs.declared.kept.StoredReply.TheVariants as replied
use Rattle.command_encodings.specs.inner.Reading.{Reader, byte_at, counted_at, follow_at, items_at, only_at, pair_at, parts_at, some_at}
use Rattle.command_encodings.specs.inner.ReadingCommands.{admit_at, command_at, number_at, small_text_at}
use Rattle.table_text.specs.inner.ReadingSecond.{unencoded_at}
use Rattle.table_text.specs.inner.ReadingTables.{flag_at, job_at, last_lease_at, last_of, lease_at, run_phase_at}
use Rattle.table_text.specs.Tables.{jobs_planned, names_rise}

-- ---- runs

-- the phase, the stop flag and the jobs of the plan, at the first attempt
unfoldable pub first_course_at : Admitted → Reader (ℕ × (RunPhase × (Bool × List JobState)))
first_course_at a bytes = pair_at (unencoded_at 1) (pair_at run_phase_at (pair_at flag_at (items_at job_at (jobs_planned a)))) bytes

unfoldable pub first_run_at : Reader RunParts
first_run_at bytes =
    parts_at (λ (p : Admitted × (ℕ × (RunPhase × (Bool × List JobState)))). record
    { admitted = p.0; attempt = p.1.0; phase = p.1.1.0; stopping = p.1.1.1.0; jobs = p.1.1.1.1 })
    (follow_at admit_at first_course_at) bytes

-- ---- runners

abbrev pub without_lease : StoredReply → Option ℕ → Option StoredReply
without_lease kept None = Some kept
without_lease kept (Some n) = None

abbrev pub with_lease : Option ℕ → Option StoredReply
with_lease None = None
with_lease (Some n) = Some (replied.Leased (record { lease = n; place = None }))

-- the kept reply with this byte and this lease
abbrev pub first_kept_of : ℕ × Option ℕ → Option StoredReply
first_kept_of p =
    if p.0 == 0 then without_lease replied.Nothing p.1
    else (if p.0 == 1 then with_lease p.1
    else (if p.0 == 2 then without_lease replied.Done p.1 else None))

unfoldable pub first_kept_at : Reader StoredReply
first_kept_at bytes = some_at first_kept_of (pair_at byte_at lease_at) bytes

unfoldable pub first_last_at : Reader LastParts
first_last_at bytes = some_at last_of (pair_at command_at first_kept_at) bytes

unfoldable pub first_runner_at : Reader RunnerParts
first_runner_at bytes =
    parts_at (λ (p : List ℕ × (ℕ × (LastParts × Option ℕ))). record { name = p.0; number = p.1.0; last = p.1.1.0; holds = p.1.1.1 })
    (pair_at (small_text_at is_runner_byte) (pair_at number_at (pair_at first_last_at lease_at))) bytes

-- ---- tables

unfoldable pub first_runs_at : Reader (List RunParts)
first_runs_at bytes = counted_at 0 max_runs first_run_at bytes

unfoldable pub first_runners_at : Reader (List RunnerParts)
first_runners_at bytes = only_at names_rise (counted_at 0 4294967295 first_runner_at) bytes

unfoldable pub first_table_at : Reader TableParts
first_table_at bytes =
    parts_at (λ (p : ℕ × (ForgottenRuns × (List RunParts × List RunnerParts))). record
    { last_lease = p.0; forgotten = p.1.0; runs = p.1.1.0; runners = p.1.1.1 })
    (pair_at last_lease_at (pair_at (unencoded_at none_forgotten) (pair_at first_runs_at first_runners_at))) bytes
