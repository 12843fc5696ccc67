-- The first layout of tables.
use Rattle.std.specs.Prelude.{◌≡◌, ℕ, List, Bool, true, false, Option, Some, None, map}
use Rattle.std.specs.List.{list_all}
use Rattle.definitions.specs.Limits.{max_runs}
use Rattle.definitions.specs.SmallText.{is_runner_byte}
use Rattle.run_plan.specs.declared.command.Command.{Command}
use Rattle.run_plan.specs.declared.command.Command.TheVariants as requested
use Rattle.stored_tables.specs.Stored.{RunnerParts, TableParts}
use Rattle.stored_tables.specs.declared.parts.LastParts.{LastParts}
use Rattle.table_model.specs.Forgotten.{none_forgotten}
use Rattle.table_model.specs.Parts.{RunParts, stored_run}
use Rattle.table_text.specs.declared.kept.StoredReply.{StoredReply}
use Rattle.table_text.specs.declared.kept.StoredReply.TheVariants as replied
use Rattle.command_encodings.specs.Commands.{admit, batch, command, number, small_text}
use Rattle.definitions.specs.Format.{Format, byte, counted, follow, only, pair, parts, row, word}
use Rattle.table_text.specs.SecondLayout.{unencoded}
use Rattle.table_text.specs.Tables.{flag_byte, is_last_lease, job, jobs_planned, last_parts, lease, names_rise, run_byte}
use Rattle.run_plan.specs.declared.last_command.ClaimReply.TheVariants as given
use Rattle.run_plan.specs.declared.last_command.LastCommand.{LastCommand}
use Rattle.run_plan.specs.declared.last_command.LastCommand.TheVariants as last
use Rattle.table_model.specs.Sound.{IsSound}
use Rattle.table_model.specs.TableState.{RunnerState, TableState}
use Rattle.stored_tables.specs.declared.parts.LastParts.TheVariants as stored

-- ---- the encoding of a table and of a batch in the first layout of an area, where it differs from the second layout. The
-- attempt of a run is not encoded and is 1. The place of a kept lease is not encoded. A lease follows the byte of each
-- kept reply, 0 for none. No command asks for an attempt. This layout is read, and nothing is written in it. This is
-- defined by this project.

-- ---- runs

-- what was admitted, the phase, the stop flag and the jobs of the plan; the attempt is 1
abbrev pub first_run : Format RunParts
first_run = parts (λ (r : RunParts). (r.admitted, (r.attempt, (r.phase, (r.stopping, r.jobs)))))
    (follow admit (λ a. pair (unencoded 1) (pair (parts run_byte byte) (pair (parts flag_byte byte) (row (jobs_planned a) job)))))

-- ---- runners

-- A kept reply. A lease has no place.
abbrev pub IsFirstKept : StoredReply → Type 0
IsFirstKept replied.Nothing = Unit {0}
IsFirstKept (replied.Leased l) = number.Takes l.lease × (l.place ≡ None)
IsFirstKept replied.Done = Unit {0}

-- Its byte and its lease.
abbrev pub first_kept_parts : StoredReply → ℕ × Option ℕ
first_kept_parts replied.Nothing = (0, None)
first_kept_parts (replied.Leased l) = (1, Some l.lease)
first_kept_parts replied.Done = (2, None)

abbrev pub first_kept : Format StoredReply
first_kept = record { Takes = IsFirstKept; encoding = λ k. (pair byte lease).encoding (first_kept_parts k) }

-- the command and its kept reply
abbrev pub first_last_command : Format LastParts
first_last_command = parts last_parts (pair command first_kept)

-- the name, the last number, the last command with its reply, and the lease that the runner holds
abbrev pub first_runner : Format RunnerParts
first_runner = parts (λ (r : RunnerParts). (r.name, (r.number, (r.last, r.holds))))
    (pair (small_text is_runner_byte) (pair number (pair first_last_command lease)))

-- ---- tables

-- the last lease, the runs in the order of their ids, and the runners in the order of their names; no run is forgotten
abbrev pub first_table : Format TableParts
first_table = parts (λ (t : TableParts). (t.last_lease, (t.forgotten, (t.runs, t.runners))))
    (pair (only is_last_lease word)
    (pair (unencoded none_forgotten) (pair (counted 0 max_runs first_run) (only names_rise (counted 0 4294967295 first_runner)))))

-- ---- batches

-- The first layout has every command of the second except the one that asks for an attempt.
abbrev pub is_in_first_layout : Command → Bool
is_in_first_layout (requested.Admit event) = true
is_in_first_layout (requested.Claim requests) = true
is_in_first_layout (requested.Done report) = true
is_in_first_layout (requested.Beat requests) = true
is_in_first_layout (requested.Cancel run) = true
is_in_first_layout (requested.Lost runner) = true
is_in_first_layout (requested.Look run) = true
is_in_first_layout (requested.Fetch run) = true
is_in_first_layout (requested.Rerun requests) = false
is_in_first_layout (requested.Forget run) = false
is_in_first_layout (requested.Discharge runner) = false

abbrev pub first_batch : Format (List Command)
first_batch = only (λ commands. list_all is_in_first_layout commands) batch

-- ---- the encoding of a whole table in the first layout: a sound table that has forgotten no run, and whose runs are all at their first
-- attempt, is encoded as what that layout stores of it. A kept lease is stored as its number alone: its place is the leg that has it. This
-- is defined by this project.

abbrev pub first_stored_last : LastCommand → LastParts
first_stored_last (last.Claim claim given.Nothing) = stored.Claim claim None
first_stored_last (last.Claim claim (given.Lease kept)) = stored.Claim claim (Some (record { lease = kept.lease_reply.lease; place = None }))
first_stored_last (last.Done report) = stored.Done report

abbrev pub first_stored_runner : RunnerState → RunnerParts
first_stored_runner r = record { name = r.name; number = r.number; last = first_stored_last r.last; holds = r.holds }

abbrev pub first_stored_table : TableState → TableParts
first_stored_table t = record {
  last_lease = t.last_lease;
  forgotten = t.forgotten;
  runs = map stored_run t.runs;
  runners = map first_stored_runner t.runners;
}

abbrev pub whole_first_table : Format TableState
whole_first_table = record {
  Takes = λ t. IsSound t × first_table.Takes (first_stored_table t);
  encoding = λ t. first_table.encoding (first_stored_table t);
}
