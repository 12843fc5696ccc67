-- A checkpoint of the abstract store. It writes the table into the other area while commands go on. This file defines when each of its
-- calls is refused, what it returns, and its effect.
use Rattle.std.specs.Prelude.{◌≡◌, ℕ, ◌+◌, ◌-◌, ◌==◌, List, [], ◌∷◌, length, drop, is_some, option_map, nat_le, nat_lt, if◌then◌else◌}
use Rattle.std.specs.Prelude.{true, Bool, IsSomeAnd, Option, Some, None}
use Rattle.wf_value.specs.declared.code.Code.TheVariants.{LastCounter}
use Rattle.wf_value.specs.declared.refusal.Refusal.{Refusal}
use Rattle.wf_value.specs.declared.refusal.Refusal.TheVariants.{Numbered}
use Rattle.gated_journal.specs.Lengths.{frame_length, gate_length, head_length}
use Rattle.run_plan.specs.declared.command.Command.{Command}
use Rattle.table_model.specs.TableState.{TableState}
use Rattle.table_text.specs.Tables.{whole_table}
use Rattle.act_store.specs.Entries.{commands_of}
use Rattle.act_store.specs.StoreState.{Checkpoint, StoreState, table_of}
use Rattle.act_store.specs.declared.layout.Layout.TheVariants as layouts
use Rattle.act_store.specs.Plain.{area_full, batch_length, checkpoint_order, failed_earlier}
use Rattle.definitions.specs.Limits.{max_slice}

abbrev pub last_counter : Refusal
last_counter = Numbered LastCounter

-- the length of a table's text in the third layout, which a checkpoint writes
abbrev pub text_length : TableState → ℕ
text_length table = length (whole_table.encoding table)

-- the offset of the first record's gate in an area with a text of this length, after the area's own gate, its head and the text
abbrev pub first_gate : ℕ → ℕ
first_gate text = gate_length + head_length + text

-- ---- check_begin

abbrev pub refusal_of_head : {D : Type 0} → StoreState D → Option Refusal
refusal_of_head s =
    if nat_le 18446744073709551615 s.generation then Some last_counter
    else (if nat_lt s.area (first_gate (text_length (table_of s)) + gate_length) then Some area_full else None)

abbrev pub refusal_of_begin : {D : Type 0} → StoreState D → Option Refusal
refusal_of_begin s =
    if s.failed then Some failed_earlier else (if is_some s.begun then Some checkpoint_order else refusal_of_head s)

-- what a checkpoint writes: the head of an area, and the text of the table of all entries
abbrev pub checkpoint_length : {D : Type 0} → StoreState D → ℕ
checkpoint_length s = head_length + text_length (table_of s)

-- the text of the table of all entries is taken, and nothing of it is written yet
abbrev pub taken : {D : Type 0} → StoreState D → Checkpoint
taken s = record {
  place = length s.history;
  text = text_length (table_of s);
  left = checkpoint_length s;
}

abbrev pub begun_at : {D : Type 0} → StoreState D → D → StoreState D
begun_at s disk = record s { disk = disk; begun = Some (taken s) }

-- ---- check_slice

-- nothing is left to write, or no checkpoint is begun
abbrev pub is_written : Option Checkpoint → Bool
is_written None = true
is_written (Some checkpoint) = checkpoint.left == 0

abbrev pub refusal_of_slice : {D : Type 0} → StoreState D → Option Refusal
refusal_of_slice s = if s.failed then Some failed_earlier else (if is_written s.begun then Some checkpoint_order else None)

-- up to `max_slice` bytes are written
abbrev pub with_slice : Checkpoint → Checkpoint
with_slice checkpoint = record checkpoint { left = checkpoint.left - max_slice }

abbrev pub sliced : {D : Type 0} → StoreState D → D → StoreState D
sliced s disk = record s { disk = disk; begun = option_map with_slice s.begun }

abbrev pub left_of : Option Checkpoint → ℕ
left_of None = 0
left_of (Some checkpoint) = checkpoint.left

-- ---- check_finish

-- the commands of the entries since a checkpoint was begun
abbrev pub since : {D : Type 0} → StoreState D → Checkpoint → List Command
since s checkpoint = commands_of (drop checkpoint.place s.history)

-- The offset of the gate after these commands, in an area with a text of this length. They are in one record; without commands there is
-- none.
abbrev pub gate_after : ℕ → List Command → ℕ
gate_after text [] = first_gate text
gate_after text (command ∷ commands) = first_gate text + frame_length + batch_length (command ∷ commands)

abbrev pub has_no_room : {D : Type 0} → StoreState D → Checkpoint → Bool
has_no_room s checkpoint = nat_lt s.area (gate_after checkpoint.text (since s checkpoint) + gate_length)

abbrev pub refusal_of_last : {D : Type 0} → StoreState D → Option Checkpoint → Option Refusal
refusal_of_last s None = Some checkpoint_order
refusal_of_last s (Some checkpoint) =
    if nat_lt 0 checkpoint.left then Some checkpoint_order else (if has_no_room s checkpoint then Some area_full else None)

abbrev pub refusal_of_finish : {D : Type 0} → StoreState D → Option Refusal
refusal_of_finish s = if s.failed then Some failed_earlier else refusal_of_last s s.begun

-- drops the checkpoint, since there is no space for its last record
abbrev pub dropped : {D : Type 0} → StoreState D → StoreState D
dropped s = record s { begun = None }

-- The other area is active, in the third layout, with the text and one record of the entries since. All entries are covered.
abbrev pub finished : {D : Type 0} → StoreState D → Checkpoint → D → StoreState D
finished s checkpoint disk = record s {
  disk = disk;
  covered = length s.history;
  used = gate_after checkpoint.text (since s checkpoint);
  generation = s.generation + 1;
  layout = layouts.Third;
  begun = None;
}

-- the finished checkpoint is the one that was begun
abbrev pub IsFinished : {D : Type 0} → StoreState D → StoreState D → Type 0
IsFinished old new = IsSomeAnd old.begun (λ checkpoint. new ≡ finished old checkpoint new.disk)
