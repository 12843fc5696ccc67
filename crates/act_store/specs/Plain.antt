-- The abstract store: when each call is refused, what it returns, and its effect. It assumes that memory and the device do not fail; for
-- failures the contracts of the calls define the effect.
use Rattle.std.specs.Prelude.{◌≡◌, ◌⊎◌, ℕ, ◌+◌, List, [], ◌∷◌, ◌++◌, length, is_some, ◌||◌, nat_le, nat_lt, if◌then◌else◌, true, false, Option, Some, None}
use Rattle.std.specs.Prelude.{◌-◌}
use Rattle.definitions.specs.Limits.{max_entries}
use Rattle.wf_value.specs.declared.code.Code.TheVariants.{AreaFull, CheckpointTurn, DiskNotEmpty, FailedEarlier, HistoryFull, NoArea, NoTable, OldLayout}
use Rattle.wf_value.specs.declared.refusal.Refusal.{Refusal}
use Rattle.wf_value.specs.declared.refusal.Refusal.TheVariants.{Numbered}
use Rattle.wf_value.specs.Gives.{no_memory}
use Rattle.act_disk.specs.Failed.{device_failed}
use Rattle.gated_journal.specs.Lengths.{frame_length, gate_length}
use Rattle.run_plan.specs.declared.command.Command.{Command}
use Rattle.table_model.specs.Step.{empty, stepped}
use Rattle.command_encodings.specs.Commands.{batch}
use Rattle.act_store.specs.Layouts.{has_command}
use Rattle.act_store.specs.StoreState.{StoreState, pending_commands, table_of}
use Rattle.act_store.specs.declared.entry.Entry.{Entry}
use Rattle.act_store.specs.declared.layout.Layout.TheVariants as layouts
use Rattle.act_store.specs.declared.receipt.Receipt.{Receipt}

-- after a device fault it is unknown what the device accepted, so the store has to be reopened
abbrev pub failed_earlier : Refusal
failed_earlier = Numbered FailedEarlier

abbrev pub history_full : Refusal
history_full = Numbered HistoryFull

abbrev pub area_full : Refusal
area_full = Numbered AreaFull

-- the layout of the active area lacks the command
abbrev pub old_layout : Refusal
old_layout = Numbered OldLayout

-- a checkpoint call or `turn_over` out of order
abbrev pub checkpoint_order : Refusal
checkpoint_order = Numbered CheckpointTurn

-- the length of the batch of these commands
abbrev pub batch_length : List Command → ℕ
batch_length commands = length (batch.encoding commands)

-- The end of a record of these commands: an open gate, the length, the batch, and the next gate. An entry is accepted only
-- if its record fits, so a commit never fails for lack of space.
abbrev pub record_end : {D : Type 0} → StoreState D → List Command → ℕ
record_end s commands = s.used + frame_length + batch_length commands + gate_length

-- the bytes that the next record may take beside its frame and the gate after it
abbrev pub room_in : {D : Type 0} → StoreState D → ℕ
room_in s = s.area - s.used - (gate_length + frame_length)

-- ---- apply

abbrev pub refusal_of_room : {D : Type 0} → StoreState D → Command → Option Refusal
refusal_of_room s command = if nat_lt s.area (record_end s (pending_commands s ++ command ∷ [])) then Some area_full else None

-- before a checkpoint, an area of an earlier layout accepts no command that this layout has not
abbrev pub refusal_of_form : {D : Type 0} → StoreState D → Command → Option Refusal
refusal_of_form s command = if has_command s.layout command then refusal_of_room s command else Some old_layout

abbrev pub refusal_of_apply : {D : Type 0} → StoreState D → Command → Option Refusal
refusal_of_apply s command =
    if s.failed then Some failed_earlier else (if nat_le max_entries (length s.history) then Some history_full else refusal_of_form s command)

-- the entry of a command at the end of the history
abbrev pub entry_of : {D : Type 0} → StoreState D → ℕ → Command → Entry
entry_of s seat command = record { seat = seat; command = command; reply = (stepped (table_of s) command).reply }

abbrev pub entered : {D : Type 0} → StoreState D → ℕ → Command → StoreState D
entered s seat command = record s { history = s.history ++ entry_of s seat command ∷ [] }

-- what the caller gets: the reply, and the position of the entry, counted from 1
abbrev pub receipt_of : {D : Type 0} → StoreState D → Command → Receipt
receipt_of s command = record { reply = (stepped (table_of s) command).reply; place = length s.history + 1 }

-- ---- commit

abbrev pub refusal_of_commit : {D : Type 0} → StoreState D → Option Refusal
refusal_of_commit s = if s.failed then Some failed_earlier else None

-- the offset of the next record once the pending entries are in one
abbrev pub used_after : {D : Type 0} → StoreState D → ℕ
used_after s = s.used + frame_length + batch_length (pending_commands s)

-- all entries are covered
abbrev pub committed : {D : Type 0} → StoreState D → D → StoreState D
committed s disk = record s { disk = disk; covered = length s.history; used = used_after s }

-- the device failed
abbrev pub broken : {D : Type 0} → StoreState D → D → StoreState D
broken s disk = record s { disk = disk; failed = true }

-- ---- turn_over

-- it is out of order while a checkpoint is in progress or an entry is not covered
abbrev pub refusal_of_turn_over : {D : Type 0} → StoreState D → Option Refusal
refusal_of_turn_over s =
    if s.failed then Some failed_earlier
    else (if is_some s.begun || nat_lt s.covered (length s.history) then Some checkpoint_order else None)

-- the history restarts at the current table
abbrev pub turned_over : {D : Type 0} → StoreState D → StoreState D
turned_over s = record s { base = table_of s; history = []; covered = 0 }

-- ---- init

abbrev pub disk_not_empty : Refusal
disk_not_empty = Numbered DiskNotEmpty

-- the offset of the first record's gate in a new area, after the area's own gate, its head and the text of the empty table
abbrev pub first_record : ℕ
first_record = 38

-- A store created on an empty disk, in the third layout.
abbrev pub fresh : {D : Type 0} → D → ℕ → StoreState D
fresh disk area = record {
  disk = disk;
  area = area;
  base = empty;
  history = [];
  covered = 0;
  used = first_record;
  generation = 1;
  layout = layouts.Third;
  begun = None;
  failed = false;
}

-- ---- open

abbrev pub no_area : Refusal
no_area = Numbered NoArea

abbrev pub no_table : Refusal
no_table = Numbered NoTable

-- The only reasons why a disk is not opened: out of memory, a device failure, a disk with no active area, and an area that encodes no
-- table.
abbrev pub RefusesOpening : Refusal → Type 0
RefusesOpening e = (e ≡ no_memory) ⊎ (e ≡ device_failed) ⊎ (e ≡ no_area) ⊎ (e ≡ no_table)

-- the refusals possible without an active area, whether or not memory is available
abbrev pub TellsNoArea : Refusal → Type 0
TellsNoArea e = (e ≡ no_area) ⊎ (e ≡ device_failed)
