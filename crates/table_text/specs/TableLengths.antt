-- The number of bytes in a table's encoding, as a sum over the fields.
use Rattle.std.specs.Prelude.{ℕ, ◌+◌, sum_by, Some, None}
use Rattle.std.specs.Option.{option_map_or}
use Rattle.run_plan.specs.declared.command.Command.TheVariants as requested
use Rattle.stored_tables.specs.Stored.{RunnerParts, TableParts}
use Rattle.table_model.specs.Forgotten.{ForgottenRuns, WorkflowCount}
use Rattle.table_model.specs.Parts.{RunParts}
use Rattle.table_runs.specs.StoredSizes.{job_size, leg_counts, texts_size}
use Rattle.stored_tables.specs.declared.parts.LastParts.{LastParts}
use Rattle.stored_tables.specs.declared.parts.LastParts.TheVariants as last
use Rattle.stored_tables.specs.declared.parts.StoredLease.{StoredLease}
use Rattle.command_encodings.specs.Lengths.{command_length, text_length}

-- a repository, a path and a number
abbrev pub count_length : WorkflowCount → ℕ
count_length c = text_length c.repo + text_length c.path + 4

-- how many runs are forgotten, how many counts there are, the counts and the deliveries
abbrev pub forgotten_length : ForgottenRuns → ℕ
forgotten_length f = 4 + (4 + sum_by count_length f.counts) + sum_by text_length f.deliveries

-- three texts, each after its length, an attempt, a phase, a flag and the jobs
abbrev pub run_length : RunParts → ℕ
run_length r = 18 + texts_size r.admitted + sum_by job_size (leg_counts r.jobs)

-- a lease, and the four numbers of its place
abbrev pub lease_length : StoredLease → ℕ
lease_length l = 4 + option_map_or (λ _. 16) l.place 0

-- a command, a byte for its reply, and the lease if there is one
abbrev pub last_length : LastParts → ℕ
last_length (last.Claim claim None) = command_length (requested.Claim claim) + 1
last_length (last.Claim claim (Some l)) = command_length (requested.Claim claim) + 1 + lease_length l
last_length (last.Done report) = command_length (requested.Done report) + 1

-- a name, a number, a last command and a lease
abbrev pub runner_length : RunnerParts → ℕ
runner_length r = text_length r.name + 4 + last_length r.last + 4

-- the last lease and the two counts of runs and runners have four bytes each
abbrev pub table_length : TableParts → ℕ
table_length t = 4 + forgotten_length t.forgotten + (4 + sum_by run_length t.runs) + (4 + sum_by runner_length t.runners)
