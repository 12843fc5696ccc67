-- A store, as its callers see it, and what the images of its disk recover to.
use Rattle.std.specs.Prelude.{◌≡◌, ◌⊎◌, ℕ, ◌≤◌, List, length, take, drop, Bool, Option, false}
use Rattle.run_plan.specs.declared.command.Command.{Command}
use Rattle.table_model.specs.TableState.{TableState}
use Rattle.act_store.specs.Entries.{commands_of, table_after}
use Rattle.act_store.specs.Images.{RecoversFrom, RecoversTo}
use Rattle.act_store.specs.declared.entry.Entry.{Entry}
use Rattle.act_store.specs.declared.layout.Layout.{Layout}

-- A checkpoint in progress: how many of the first entries lead to the table it writes, the length of that table's text, and how many bytes
-- are left to write. What it writes after the other area's gate is a head with that text.
pub record Checkpoint : Type 0 where
  pub place : ℕ
  pub text : ℕ
  pub left : ℕ

pub record StoreState (D : Type 0) : Type 0 where
  pub disk : D
  -- the length of a disk area
  pub area : ℕ
  -- the table at the start of the history, and the history
  pub base : TableState
  pub history : List Entry
  -- how many of the first entries the last commit or finished checkpoint made durable
  pub covered : ℕ
  -- the offset of the gate after which the next record goes
  pub used : ℕ
  -- the generation of the active area and the layout of its bytes
  pub generation : ℕ
  pub layout : Layout
  -- the checkpoint in progress, if any
  pub begun : Option Checkpoint
  -- whether the device has failed
  pub failed : Bool

-- the entries that are not covered, and their commands
abbrev pub pending : {D : Type 0} → StoreState D → List Entry
pending s = drop s.covered s.history

abbrev pub pending_commands : {D : Type 0} → StoreState D → List Command
pending_commands s = commands_of (pending s)

-- the table of all entries, and that of the covered ones
abbrev pub table_of : {D : Type 0} → StoreState D → TableState
table_of s = table_after s.base s.history

abbrev pub covered_table : {D : Type 0} → StoreState D → TableState
covered_table s = table_after s.base (take s.covered s.history)

-- An image recovers to the covered entries, or to all.
abbrev pub RecoversToEither : {D : Type 0} → StoreState D → List ℕ → Type 0
RecoversToEither s c = RecoversTo (covered_table s) c ⊎ RecoversTo (table_of s) c

-- If the store has not failed, each image recovers to exactly the covered entries. It does so from the area of the store's generation and
-- layout, whose records end where the next one goes.
abbrev pub RecoverToCovered : {D : Type 0} → (D → List ℕ → Type 0) → StoreState D → Type 0
RecoverToCovered images s =
    s.failed ≡ false → (c : List ℕ) → images s.disk c → RecoversFrom s.generation s.used s.layout (covered_table s) c

-- An image recovers to some first entries of a history, at least `least` of them.
pub record RecoversToSome (base : TableState) (history : List Entry) (least : ℕ) (image : List ℕ) : Type 0 where
  pub count : ℕ
  pub from : least ≤ count
  pub within : count ≤ length history
  pub recovers : RecoversTo (table_after base (take count history)) image
