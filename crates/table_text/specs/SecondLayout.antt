-- The second layout of tables.
use Rattle.std.specs.Prelude.{◌≡◌, List, [], Bool, true, false}
use Rattle.std.specs.List.{list_all}
use Rattle.run_plan.specs.declared.command.Command.{Command}
use Rattle.run_plan.specs.declared.command.Command.TheVariants as requested
use Rattle.stored_tables.specs.Stored.{TableParts, stored_table}
use Rattle.table_model.specs.Forgotten.{none_forgotten}
use Rattle.table_model.specs.Sound.{IsSound}
use Rattle.table_model.specs.TableState.{TableState}
use Rattle.command_encodings.specs.Commands.{batch}
use Rattle.definitions.specs.Format.{Format, only, pair, parts, word}
use Rattle.table_text.specs.Tables.{is_last_lease, runs_and_runners}

-- ---- the encoding of a table and of a batch in the second layout of an area, where it differs from the third layout. Nothing is encoded of
-- forgotten runs, and there are none. No command forgets a run or a runner. This layout is read, and no table is written in it. This is defined
-- by this project.

-- a value that is not encoded, since it is always this one
abbrev pub unencoded : {A : Type 0} → A → Format A
unencoded {A} x = record { Takes = λ (y : A). y ≡ x; encoding = λ _. [] }

-- the last lease, the runs and the runners; no run is forgotten
abbrev pub second_table : Format TableParts
second_table = parts (λ (t : TableParts). (t.last_lease, (t.forgotten, (t.runs, t.runners))))
    (pair (only is_last_lease word) (pair (unencoded none_forgotten) runs_and_runners))

-- ---- batches

-- The second layout has every command except those that forget runs or a runner.
abbrev pub is_in_second_layout : Command → Bool
is_in_second_layout (requested.Admit event) = true
is_in_second_layout (requested.Claim requests) = true
is_in_second_layout (requested.Done report) = true
is_in_second_layout (requested.Beat requests) = true
is_in_second_layout (requested.Cancel run) = true
is_in_second_layout (requested.Lost runner) = true
is_in_second_layout (requested.Look run) = true
is_in_second_layout (requested.Fetch run) = true
is_in_second_layout (requested.Rerun requests) = true
is_in_second_layout (requested.Forget run) = false
is_in_second_layout (requested.Discharge runner) = false

abbrev pub second_batch : Format (List Command)
second_batch = only (λ commands. list_all is_in_second_layout commands) batch

-- ---- the encoding of a whole table in the second layout: a sound table that has forgotten no run is encoded as its stored parts.

abbrev pub whole_second_table : Format TableState
whole_second_table = record { Takes = λ t. IsSound t × second_table.Takes (stored_table t); encoding = λ t. second_table.encoding (stored_table t) }
