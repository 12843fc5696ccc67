-- How the promise of a store is kept from call to call.
use Rattle.std.proofs.Common.{◌≡◌, inl, inr, ⊎_elim, ℕ, ◌+◌, ◌≤◌, List, [], ◌∷◌, ◌++◌, length, take, false}
use Rattle.std.proofs.Common.{refl, sym, ◌∙◌, ap, subst, arith, length-append}
use Rattle.std.proofs.lemmas.List.{take_all, take-append-le}
use Rattle.std.specs.Int.{to_be_bytes, w32}
use Rattle.std.specs.List.{AllByRecursion}
use Rattle.definitions.specs.Area.{Head, framed, opened}
use Rattle.gated_journal.specs.Whole.{RecoversWhole, WholeOrGrew}
use Rattle.gated_journal.specs.declared.gate.GateState.{GateState}
use Rattle.gated_journal.specs.declared.side.Side.{Side}
use Rattle.gated_journal.proofs.Grown.{opened-push}
use Rattle.table_model.specs.Step.{after}
use Rattle.table_model.specs.TableState.{TableState}
use Rattle.command_encodings.specs.Commands.{batch}
use Rattle.act_store.specs.Entries.{table_after}
use Rattle.act_store.specs.Images.{IsAreaLength, RecoversFrom, RecoversTo, MeansTable}
use Rattle.act_store.specs.StoreState.{StoreState, RecoverToCovered, RecoversToEither, covered_table, pending_commands, table_of}
use Rattle.act_store.specs.Layouts.{HasCommand, batch_format}
use Rattle.act_store.specs.Plain.{committed, used_after}
use Rattle.act_store.specs.inner.Promise.{IsSettled, IsConsistent}
use Rattle.act_store.specs.declared.entry.Entry.{Entry}
use Rattle.act_store.specs.declared.layout.Layout.{Layout}
use Rattle.act_store.proofs.Histories.{table_split}
use Rattle.act_store.proofs.InLayout.{one_layout, takes_batch}
use Rattle.act_store.proofs.Meanings.{means_more}

-- the gate after one more record
length-opened : (head : Head) (bodies : List (List ℕ)) (body : List ℕ)
    → length (opened head (bodies ++ body ∷ [])) ≡ length (opened head bodies) + (5 + length body)
length-opened head bodies body =
    let number = to_be_bytes w32 (length body) in
    let four : length number ≡ 4 = refl in
    omega (
      arith,
      ap (λ (l : List ℕ). length l) (opened-push head bodies body),
      length-append (opened head bodies) (0xA5 ∷ framed body),
      length-append number body,
      four,
    )

-- an image that reads so recovers to the table it means
pub recovers_to : (len : ℕ) (side : Side) (gate : GateState) (head : Head) (bodies : List (List ℕ)) (table : TableState) (c : List ℕ)
    → IsAreaLength len → RecoversWhole len side gate c head bodies → MeansTable head bodies table → RecoversTo table c
recovers_to len side gate head bodies table c size recovers means = record {
  len = len;
  long = recovers.whole;
  size = size;
  side = side;
  head = head;
  bodies = bodies;
  encodes = recovers.recovers.encodes;
  means = means;
}

pub settled_recovers : (len : ℕ) (side : Side) (gate : GateState) (generation used : ℕ) (layout : Layout) (table : TableState) (images : List ℕ → Type 0)
    → IsAreaLength len → IsSettled len side gate generation used layout table images → (c : List ℕ) → images c → RecoversTo table c
settled_recovers len side gate generation used layout table images size settled c now =
    recovers_to len side gate settled.head settled.bodies table c size (settled.each c now) settled.means

-- and its area has that generation
pub settled_at_used : (len : ℕ) (side : Side) (gate : GateState) (generation used : ℕ) (layout : Layout) (table : TableState) (images : List ℕ → Type 0)
    → IsAreaLength len → IsSettled len side gate generation used layout table images → (c : List ℕ) → images c → RecoversFrom generation used layout table c
unfolding settled_recovers recovers_to
settled_at_used len side gate generation used layout table images size settled c now = record {
  recovers = settled_recovers len side gate generation used layout table images size settled c now;
  generation_is = settled.generation_is;
  used_is = settled.used_is;
  layout_is = settled.layout_is;
}

pub recover_to_covered : {D : Type 0} (images : D → List ℕ → Type 0) (side : Side) (gate : GateState) (s : StoreState D) → IsAreaLength s.area
    → IsConsistent images side gate s → RecoverToCovered images s
recover_to_covered images side gate s size active_side live =
    settled_at_used s.area side gate s.generation s.used s.layout (covered_table s) (images s.disk) size (active_side.settled live)

-- an equal table
pub settled_at : (len : ℕ) (side : Side) (gate : GateState) (generation used : ℕ) (layout : Layout) (one two : TableState) (images : List ℕ → Type 0)
    → one ≡ two → IsSettled len side gate generation used layout one images → IsSettled len side gate generation used layout two images
settled_at len side gate generation used layout one two images same settled =
    subst (λ (t : TableState). IsSettled len side gate generation used layout t images) same settled

module _ {D : Type 0} (images : D → List ℕ → Type 0) (side : Side) (gate : GateState) (s : StoreState D) (size : IsAreaLength s.area) where
  abbrev body : List ℕ
  body = batch.encoding (pending_commands s)

  -- the covered entries and then the pending ones
  all_after : after (covered_table s) (pending_commands s) ≡ table_of s
  all_after = table_split s.base s.covered s.history

  all_covered : (covered : ℕ) → covered ≡ length s.history → table_after s.base (take covered s.history) ≡ table_of s
  all_covered covered is = ap (λ (l : List Entry). table_after s.base l) (take_all covered s.history (omega (arith, is)))

  module _ (settled : IsSettled s.area side gate s.generation s.used s.layout (covered_table s) (images s.disk))
      (takes : batch.Takes (pending_commands s)) (has : AllByRecursion (HasCommand s.layout) (pending_commands s)) where
    -- the layout in which the images are read is that of the store
    takes_means : (batch_format settled.means.layout).Takes (pending_commands s)
    takes_means =
        subst (λ (l : Layout). (batch_format l).Takes (pending_commands s))
        (one_layout settled.head s.layout settled.means.layout settled.layout_is settled.means.layout_is)
        (takes_batch s.layout (pending_commands s) takes has)

    means_all : MeansTable settled.head (settled.bodies ++ body ∷ []) (table_of s)
    means_all =
        subst (λ (t : TableState). MeansTable settled.head (settled.bodies ++ body ∷ []) t) all_after
        (means_more settled.head settled.bodies (covered_table s) (pending_commands s) settled.means takes_means)

    -- an image at any moment of an append
    pub grown : (c : List ℕ) → WholeOrGrew s.area side gate settled.head settled.bodies body c → RecoversToEither s c
    grown c either =
        ⊎_elim (λ same. inl (recovers_to s.area side gate settled.head settled.bodies (covered_table s) c size same settled.means))
        (λ more. inr (recovers_to s.area side gate settled.head (settled.bodies ++ body ∷ []) (table_of s) c size more means_all)) either

    -- and after the append
    pub resettled : (disk : D) (used : ℕ) → used ≡ used_after s
        → ((c : List ℕ) → images disk c → RecoversWhole s.area side gate c settled.head (settled.bodies ++ body ∷ []))
        → IsSettled s.area side gate s.generation used s.layout (table_of s) (images disk)
    resettled disk used is each = record {
      head = settled.head;
      bodies = settled.bodies ++ body ∷ [];
      each = each;
      used_is = omega (arith, is, settled.used_is, length-opened settled.head settled.bodies body);
      generation_is = settled.generation_is;
      layout_is = settled.layout_is;
      means = means_all;
    }

  -- after a commit
  pub consistent_fresh : (disk : D) → IsSettled s.area side gate s.generation (used_after s) s.layout (table_of s) (images disk)
      → IsConsistent images side gate (committed s disk)
  consistent_fresh disk settled =
      let here = settled_at s.area side gate s.generation (used_after s) s.layout (table_of s) (covered_table (committed s disk)) (images disk)
      (sym (all_covered (length s.history) (omega arith))) settled in
      record {
        each = λ c now. inr (settled_recovers s.area side gate s.generation (used_after s) s.layout (table_of s) (images disk) size settled c now);
        settled = λ _. here;
      }

  -- with one more entry
  pub consistent_entered : (history : List Entry) (entry : Entry) → history ≡ s.history ++ entry ∷ [] → s.covered ≤ length s.history
      → s.failed ≡ false → IsConsistent images side gate s → IsConsistent images side gate (record s { history = history })
  consistent_entered history entry is covers live active_side =
      let prefix : take s.covered history ≡ take s.covered s.history =
      ap (λ (l : List Entry). take s.covered l) is ∙ take-append-le s.covered s.history (entry ∷ []) covers in
      let same : covered_table s ≡ table_after s.base (take s.covered history) =
      sym (ap (λ (l : List Entry). table_after s.base l) prefix) in
      let settled = settled_at s.area side gate s.generation s.used s.layout (covered_table s) (table_after s.base (take s.covered history))
      (images s.disk) same (active_side.settled live) in
      record {
        each = λ c now. inl (settled_recovers s.area side gate s.generation s.used s.layout (table_after s.base (take s.covered history))
            (images s.disk) size settled c now);
        settled = λ _. settled;
      }
