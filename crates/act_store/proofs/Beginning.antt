-- How a store begins: with an empty history, at the table that its disk recovers to.
use Rattle.std.proofs.Common.{◌≡◌, inl, ℕ, ◌<◌, List, [], ◌∷◌, take, Bool, refl, sym, ap, subst, arith}
use Rattle.std.specs.Prelude.{Option}
use Rattle.std.proofs.lemmas.List.{take_all}
use Rattle.definitions.specs.Area.{Head, Fits}
use Rattle.gated_journal.specs.TwoAreas.{after_gate}
use Rattle.gated_journal.specs.Whole.{RecoversWhole}
use Rattle.gated_journal.specs.declared.gate.GateState.{GateState}
use Rattle.gated_journal.specs.declared.gate.GateState.TheVariants.{Closed}
use Rattle.gated_journal.specs.declared.side.Side.{Side}
use Rattle.gated_journal.specs.declared.side.Side.TheVariants.{First}
use Rattle.table_model.specs.Sound.{IsSound}
use Rattle.table_model.specs.Step.{empty}
use Rattle.table_model.specs.TableState.{TableState}
use Rattle.act_store.specs.Entries.{table_after}
use Rattle.act_store.specs.Images.{IsAreaLength, RecoversTo, MeansTable}
use Rattle.act_store.specs.Layouts.{current_version}
use Rattle.act_store.specs.StoreState.{Checkpoint, StoreState}
use Rattle.act_store.specs.inner.Promise.{IsCounted, IsSettled, IsConsistent}
use Rattle.act_store.specs.PendingBatch.{BatchState, batch_state_of}
use Rattle.act_store.specs.declared.entry.Entry.{Entry}
use Rattle.act_store.specs.declared.layout.Layout.{Layout}
use Rattle.act_store.specs.declared.layout.Layout.TheVariants as layouts
use Rattle.act_store.proofs.Settling.{settled_at, settled_recovers}
use Rattle.act_store.proofs.TextOfTable.{empty_encodes, empty_text}

abbrev pub begun : {D : Type 0} → D → ℕ → TableState → ℕ → ℕ → Layout → Option Checkpoint → Bool → List Entry → StoreState D
begun disk area base used generation layout checkpoint failed history = record {
  disk = disk;
  area = area;
  base = base;
  history = history;
  covered = 0;
  used = used;
  generation = generation;
  layout = layout;
  begun = checkpoint;
  failed = failed;
}

module _ {D : Type 0} (disk : D) (area : ℕ) (base : TableState) (used generation : ℕ) (layout : Layout) (checkpoint : Option Checkpoint)
    (failed : Bool) (history : List Entry) (none : history ≡ []) where
  pub counted_begun : IsSound base → (table : TableState) → table ≡ base → (pending_batch : BatchState) → pending_batch ≡ batch_state_of [] → IsAreaLength area
      → used < area
      → IsCounted (begun disk area base used generation layout checkpoint failed history) table pending_batch
  counted_begun sound table same pending_batch nothing size fits =
      subst (λ (h : List Entry). IsCounted (begun disk area base used generation layout checkpoint failed h) table pending_batch) (sym none) (record {
        sound = sound;
        legal = refl;
        table_is = same;
        covers = omega arith;
        most = omega arith;
        size = size;
        gate_fits = fits;
        record_fits = λ less. absurd (omega (arith, less));
        encoded = _;
        in_layout = _;
        pending_batch_is = nothing;
      })

  pub consistent_begun : (images : D → List ℕ → Type 0) (side : Side) (gate : GateState) → IsAreaLength area
      → IsSettled area side gate generation used layout base (images disk)
      → IsConsistent images side gate (begun disk area base used generation layout checkpoint failed history)
  consistent_begun images side gate size settled =
      subst (λ (h : List Entry). IsConsistent images side gate (begun disk area base used generation layout checkpoint failed h)) (sym none)
      (let first : take 0 [] ≡ [] = take_all 0 [] (omega arith) in
      let here = settled_at area side gate generation used layout base (table_after base (take 0 [])) (images disk)
      (ap (λ (l : List Entry). table_after base l) (sym first)) settled in
      record {
        each = λ c now. inl (settled_recovers area side gate generation used layout (table_after base (take 0 [])) (images disk) size here c now);
        settled = λ _. here;
      })

-- ---- a new store

abbrev pub first_head : Head
first_head = record { version = current_version; generation = 1; text = empty_text }

pub means_first : MeansTable first_head [] empty
means_first = record {
  layout = layouts.Third;
  layout_is = refl;
  first = empty;
  text = empty_encodes;
  commands = [];
  batched = record { batches = []; takes = _; encoded = refl; commands_are = refl };
  table_is = refl;
}

-- the bytes of the first area
pub first_bytes : 0 ∷ after_gate first_head []
    ≡ 0 ∷ 4 ∷ 0 ∷ 0 ∷ 0 ∷ 0 ∷ 0 ∷ 0 ∷ 0 ∷ 1 ∷ 0 ∷ 0 ∷ 0 ∷ 0 ∷ 0 ∷ 0 ∷ 0 ∷ 20 ∷ 0 ∷ 0 ∷ 0 ∷ 0 ∷ 0 ∷ 0 ∷ 0 ∷ 0 ∷ 0 ∷ 0
    ∷ 0 ∷ 0 ∷ 0 ∷ 0 ∷ 0 ∷ 0 ∷ 0 ∷ 0 ∷ 0 ∷ 0 ∷ 0 ∷ []
first_bytes = refl

pub first_fits : Fits first_head []
first_fits = record { generation = omega arith; text = omega arith; each = _ }

pub first_settled : (area : ℕ) (images : List ℕ → Type 0) → ((c : List ℕ) → images c → RecoversWhole area First Closed c first_head [])
    → IsSettled area First Closed 1 38 layouts.Third empty images
first_settled area images each = record {
  head = first_head;
  bodies = [];
  each = each;
  used_is = refl;
  generation_is = refl;
  layout_is = refl;
  means = means_first;
}

pub first_recovers : (area : ℕ) (images : List ℕ → Type 0) → IsAreaLength area
    → ((c : List ℕ) → images c → RecoversWhole area First Closed c first_head []) → (c : List ℕ) → images c → RecoversTo empty c
first_recovers area images size each =
    settled_recovers area First Closed 1 38 layouts.Third empty images size (first_settled area images each)
