-- What a store guarantees after any calls: the promise about the images of its disk.
use Rattle.std.specs.Prelude.{◌≡◌, ℕ, ◌<◌, ◌≤◌, ◌+◌, ◌^◌, List, length, take, drop, flat_map, Bool, false, Some}
use Rattle.std.specs.List.{AllByRecursion}
use Rattle.definitions.specs.Limits.{max_entries}
use Rattle.definitions.specs.Disk.{Holds}
use Rattle.definitions.specs.Area.{Head, head_bytes, opened}
use Rattle.gated_journal.specs.TwoAreas.{other, start_of}
use Rattle.gated_journal.specs.Whole.{RecoversWhole}
use Rattle.gated_journal.specs.declared.gate.GateState.{GateState}
use Rattle.gated_journal.specs.declared.gate.GateState.TheVariants.{Closed}
use Rattle.gated_journal.specs.declared.side.Side.{Side}
use Rattle.table_model.specs.Sound.{IsSound}
use Rattle.table_model.specs.TableState.{TableState}
use Rattle.command_encodings.specs.Commands.{IsEncoded, command_bytes}
use Rattle.act_store.specs.Entries.{IsLegal, commands_of, table_after}
use Rattle.act_store.specs.Images.{IsAreaLength, MeansTable}
use Rattle.act_store.specs.StoreState.{StoreState, RecoversToEither, covered_table, pending_commands, table_of}
use Rattle.act_store.specs.Layouts.{HasCommand, current_version, layout_of, EncodesTable}
use Rattle.act_store.specs.Plain.{record_end}
use Rattle.act_store.specs.PendingBatch.{BatchState, batch_state_of}
use Rattle.act_store.specs.declared.begun.Begun.{Begun}
use Rattle.act_store.specs.declared.entry.Entry.{Entry}
use Rattle.act_store.specs.declared.layout.Layout.{Layout}
use Rattle.act_store.specs.declared.layout.Layout.TheVariants as layouts

-- All images read as the same head, of this layout, and the same bodies. They recover to this table, and the gate in use comes after them.
pub record IsSettled (len : ℕ) (side : Side) (gate : GateState) (generation used : ℕ) (layout : Layout)
    (table : TableState) (images : List ℕ → Type 0) : Type 0 where
  pub head : Head
  pub bodies : List (List ℕ)
  pub each : (c : List ℕ) → images c → RecoversWhole len side gate c head bodies
  pub used_is : used ≡ length (opened head bodies)
  pub generation_is : generation ≡ head.generation
  pub layout_is : layout_of head.version ≡ Some layout
  pub means : MeansTable head bodies table

-- Each image recovers to the covered entries or to all. This also holds for a failed store, since its history grows no more. Until the
-- store fails, all images agree on the covered entries, as the next record requires.
pub record IsConsistent {D : Type 0} (images : D → List ℕ → Type 0) (side : Side) (gate : GateState) (s : StoreState D) : Type 0 where
  pub each : (c : List ℕ) → images s.disk c → RecoversToEither s c
  pub settled : s.failed ≡ false → IsSettled s.area side gate s.generation s.used s.layout (covered_table s) (images s.disk)

-- The state in memory: a sound base, a legal history, the table that it leads to, and the pending entries. Their record fits the area, and
-- the area's layout has their commands.
pub record IsCounted {D : Type 0} (s : StoreState D) (table : TableState) (pending_batch : BatchState) : Type 0 where
  pub sound : IsSound s.base
  pub legal : IsLegal s.base s.history
  pub table_is : table ≡ table_of s
  pub covers : s.covered ≤ length s.history
  pub most : length s.history ≤ max_entries
  pub size : IsAreaLength s.area
  pub gate_fits : s.used < s.area
  pub record_fits : s.covered < length s.history → record_end s (pending_commands s) ≤ s.area
  pub encoded : AllByRecursion IsEncoded (pending_commands s)
  pub in_layout : AllByRecursion (HasCommand s.layout) (pending_commands s)
  pub pending_batch_is : pending_batch ≡ batch_state_of (pending_commands s)

-- The state in memory of a checkpoint in progress: the head of an area of the next generation, with the text of the table after the first
-- entries. It fits the area, with one gate before it and one after. The encodings of the entries since are kept behind it.
pub record IsSnapshot (base : TableState) (history : List Entry) (generation area : ℕ) (b : Begun) : Type 0 where
  pub text : List ℕ
  pub encodes : EncodesTable layouts.Third (table_after base (take b.place history)) text
  pub prefix_is : b.head_and_text.items ≡ head_bytes (record { version = current_version; generation = generation + 1; text = text })
  pub place : b.place ≤ length history
  pub put : b.put ≤ length b.head_and_text.items
  pub newer : generation + 1 < 2 ^ 64
  pub fits : 2 + length b.head_and_text.items ≤ area
  pub later_is : b.last.encoded ≡ flat_map command_bytes (commands_of (drop b.place history))
  pub later_encoded : AllByRecursion IsEncoded (commands_of (drop b.place history))

-- Its state on the disk: the gate of the other area is closed, and a read finds what was put after that gate.
pub record IsPut (area : ℕ) (side : Side) (gate : GateState) (seen : List ℕ) (b : Begun) : Type 0 where
  pub closed : gate ≡ Closed
  pub held : Holds seen (start_of area (other side) + 1) (take b.put b.head_and_text.items)

-- Both, for a checkpoint of a store on an honest or dishonest disk. Once the store has failed, nothing is known of the disk.
abbrev pub IsBegun : TableState → List Entry → ℕ → ℕ → Side → GateState → Type 0 → Bool → List ℕ → Begun → Type 0
IsBegun base history generation area side gate honest failed seen b =
    IsSnapshot base history generation area b × (honest → failed ≡ false → IsPut area side gate seen b)
