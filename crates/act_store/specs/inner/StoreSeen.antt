-- What contracts see of a store's fields.
use Rattle.std.specs.Prelude.{◌-◌, length, option_map}
use Rattle.gated_journal.specs.Lengths.{head_length}
use Rattle.act_store.specs.StoreState.{Checkpoint, StoreState}
use Rattle.act_store.specs.declared.begun.Begun.{Begun}
use Rattle.act_store.specs.declared.store.Store.TheInside.{Inside}

-- a version, a generation and a length precede the text
abbrev pub as_checkpoint : Begun → Checkpoint
as_checkpoint b = record {
  place = b.place;
  text = length b.head_and_text.items - head_length;
  left = length b.head_and_text.items - b.put;
}

abbrev pub as_state : {D : Type 0} → Inside D → StoreState D
as_state s = record {
  disk = s.disk;
  area = s.areas.len;
  base = s.base.value;
  history = s.history.items;
  covered = s.covered;
  used = s.used;
  generation = s.generation;
  layout = s.layout;
  begun = option_map as_checkpoint s.begun;
  failed = s.failed;
}
