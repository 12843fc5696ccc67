-- The plain store that a script is played over: a store without its disk. It gives the answer to each step if neither
-- memory nor the device fails. This is defined by this project.
use Rattle.std.specs.Prelude.{ℕ, length, nat_lt, Option, Some, None, if◌then◌else◌}
use Rattle.wf_value.specs.declared.refusal.Refusal.{Refusal}
use Rattle.table_model.specs.Step.{stepped}
use Rattle.act_store.specs.Checkpoints.{begun_at, finished, left_of, sliced, checkpoint_length}
use Rattle.act_store.specs.StoreState.{Checkpoint, StoreState, table_of}
use Rattle.act_store.specs.Plain.{committed, entered, fresh}
use Rattle.act_store.specs.Steps.{left_by, refusal_of}
use Rattle.act_store.specs.declared.step.Step.{Step}
use Rattle.act_store.specs.declared.step.Step.TheVariants as requested
use Rattle.act_store.specs.declared.step.Played.{Played}
use Rattle.act_store.specs.declared.step.Played.TheVariants as told

abbrev pub PlainStore : Type 0
PlainStore = StoreState (Unit {0})

abbrev pub without_disk : {D : Type 0} → StoreState D → PlainStore
without_disk s = record {
  disk = tt;
  area = s.area;
  base = s.base;
  history = s.history;
  covered = s.covered;
  used = s.used;
  generation = s.generation;
  layout = s.layout;
  begun = s.begun;
  failed = s.failed;
}

-- the length of each of the two areas of a script's store
abbrev pub area_of_play : ℕ
area_of_play = 8388608

-- A script begins with an empty history over the empty table.
abbrev pub start : PlainStore
start = fresh tt area_of_play

-- all entries are covered; if they are covered already, nothing changes
abbrev pub all_covered : PlainStore → PlainStore
all_covered s = if nat_lt s.covered (length s.history) then committed s tt else s

-- a finish without a begin is refused
abbrev pub all_checked : PlainStore → Option Checkpoint → PlainStore
all_checked s None = s
all_checked s (Some checkpoint) = finished s checkpoint tt

-- The store after a step that is not refused, and its answer. A command is entered and gets the reply of the table's
-- step, on the table after all entries so far.
abbrev pub done : PlainStore → Step → PlainStore × Played
done s (requested.Apply command) = (entered s 0 command, told.Replied (stepped (table_of s) command).reply)
done s requested.Commit = (all_covered s, told.Count (length s.history))
done s requested.Begin = (begun_at s tt, told.Count (checkpoint_length s))
done s requested.Slice = (sliced s tt, told.Count (left_of (sliced s tt).begun))
done s requested.Finish = (all_checked s s.begun, told.Count (length s.history))

-- the store after a step, and its answer
abbrev pub taken_unless : PlainStore → Step → Option Refusal → PlainStore × Played
taken_unless s step None = done s step
taken_unless s step (Some e) = (left_by s step e, told.Refused e)

abbrev pub taken : PlainStore → Step → PlainStore × Played
taken s step = taken_unless s step (refusal_of s step)
