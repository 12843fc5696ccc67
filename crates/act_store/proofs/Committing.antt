-- The effect of a commit.
use Rattle.std.proofs.Common.{◌≡◌, ⊎_elim, ℕ, ◌+◌, ◌-◌, ◌<◌, ◌≤◌, ◌^◌, List, [], ◌∷◌, ◌++◌, length, drop}
use Rattle.std.proofs.Common.{false, refl, sym, ◌∙◌, ap, subst, arith, drop_of_length-le}
use Rattle.std.specs.List.{AllByRecursion}
use Rattle.std.proofs.lemmas.List.{take_all, length-drop, length-map}
use Rattle.definitions.specs.Disk.{EachSince}
use Rattle.act_disk.proofs.Moments.{weakened}
use Rattle.gated_journal.specs.Appends.{record_of}
use Rattle.definitions.specs.Area.{Head, opened}
use Rattle.gated_journal.specs.Whole.{RecoversWhole, WholeOrGrew}
use Rattle.gated_journal.specs.declared.gate.GateState.{GateState}
use Rattle.gated_journal.specs.declared.side.Side.{Side}
use Rattle.table_model.specs.TableState.{TableState}
use Rattle.command_encodings.specs.Commands.{IsEncoded, batch}
use Rattle.act_store.specs.Entries.{commands_of, table_after}
use Rattle.act_store.specs.Images.{RecoversTo}
use Rattle.act_store.specs.Layouts.{HasCommand}
use Rattle.act_store.specs.StoreState.{StoreState, RecoversToEither, covered_table, pending_commands, table_of}
use Rattle.act_store.specs.Plain.{committed, used_after}
use Rattle.act_store.specs.inner.Promise.{IsCounted, IsSettled, IsConsistent}
use Rattle.act_store.specs.inner.StoreSeen.{as_state}
use Rattle.act_store.specs.PendingBatch.{BatchState, body_of, batch_state_of}
use Rattle.act_store.specs.declared.entry.Entry.{Entry}
use Rattle.act_store.specs.declared.store.Store.TheInside.{Inside}
use Rattle.act_store.proofs.Records.{batch_body}
use Rattle.act_store.proofs.Settling.{grown, resettled}

-- an image at this moment is one since any earlier moment
pub now_of : {D : Type 0} (moment : D → ℕ) (images_since : D → ℕ → List ℕ → Type 0) (images : D → List ℕ → Type 0) (old new : D)
    (P : List ℕ → Type 0) → ((t : ℕ) (c : List ℕ) → t ≤ moment new → images new c → images_since new t c)
    → EachSince moment images_since old new P → (c : List ℕ) → images new c → P c
now_of moment images_since images old new P counts since c now = since.each c (counts (moment old) c since.later now)

pub none_left : (left : BatchState) → left.count ≡ 0 → left.encoded ≡ [] → left ≡ batch_state_of []
none_left left none no_bytes =
    ap (λ (n : ℕ). record { count = n; encoded = left.encoded }) none ∙ ap (λ (l : List ℕ). record { count = 0; encoded = l }) no_bytes

module _ {D : Type 0} (s : StoreState D) (table : TableState) (pending_batch : BatchState) (counted : IsCounted s table pending_batch) where
  pub length-pending : length (pending_commands s) ≡ length s.history - s.covered
  length-pending = length-map (drop s.covered s.history) (λ (e : Entry). e.command) ∙ length-drop s.covered s.history

  count_is : pending_batch.count ≡ length s.history - s.covered
  count_is = ap (λ (w : BatchState). w.count) counted.pending_batch_is ∙ length-pending

  -- with no pending entry, all entries are covered
  pub none_waits : pending_batch.count ≡ 0 → s.covered ≡ length s.history
  none_waits none = omega (arith, none, count_is, counted.covers)

  pub all_recovers : s.covered ≡ length s.history → (c : List ℕ) → RecoversToEither s c → RecoversTo (table_of s) c
  all_recovers all c either =
      let same : covered_table s ≡ table_of s =
      ap (λ (l : List Entry). table_after s.base l) (take_all s.covered s.history (omega (arith, all))) in
      ⊎_elim (λ covered. subst (λ (t : TableState). RecoversTo t c) same covered) (λ here. here) either

  module _ (some : 0 < pending_batch.count) where
    waits : body_of pending_batch ≡ batch.encoding (pending_commands s)
    waits = ap body_of counted.pending_batch_is ∙ batch_body (pending_commands s)

    pub more : s.covered < length s.history
    more = omega (arith, some, count_is)

    pub used_is : (bytes : ℕ) → bytes ≡ 5 + length (body_of pending_batch) → s.used + bytes ≡ used_after s
    used_is bytes is = omega (arith, is, ap (λ (l : List ℕ). length l) waits)

    takes : batch.Takes (pending_commands s)
    takes = (omega (arith, more, length-pending), omega (arith, length-pending, counted.most), counted.encoded)

    pub counted_committed : (disk : D) (left : BatchState) → left.count ≡ 0 → left.encoded ≡ [] → IsCounted (committed s disk) table left
    counted_committed disk left none no_bytes =
        let all : drop (length s.history) s.history ≡ [] = drop_of_length-le s.history (omega arith) in
        record {
          sound = counted.sound;
          legal = counted.legal;
          table_is = counted.table_is;
          covers = omega arith;
          most = counted.most;
          size = counted.size;
          gate_fits = omega (arith, counted.record_fits more);
          record_fits = λ less. absurd (omega (arith, less));
          encoded = subst (λ (l : List Entry). AllByRecursion IsEncoded (commands_of l)) (sym all) _;
          in_layout = subst (λ (l : List Entry). AllByRecursion (HasCommand s.layout) (commands_of l)) (sym all) _;
          pending_batch_is = none_left left none no_bytes ∙ ap (λ (l : List Entry). batch_state_of (commands_of l)) (sym all);
        }

    module _ (images : D → List ℕ → Type 0) (side : Side) (gate : GateState)
        (settled : IsSettled s.area side gate s.generation s.used s.layout (covered_table s) (images s.disk)) where
      commit_each : (c : List ℕ) → WholeOrGrew s.area side gate settled.head settled.bodies (body_of pending_batch) c → RecoversToEither s c
      commit_each c either =
          grown images side gate s counted.size settled takes counted.in_layout c
          (subst (λ (b : List ℕ). WholeOrGrew s.area side gate settled.head settled.bodies b c) waits either)

      commit_settled : (disk : D)
          → ((c : List ℕ) → images disk c → RecoversWhole s.area side gate c settled.head (settled.bodies ++ body_of pending_batch ∷ []))
          → IsSettled s.area side gate s.generation (used_after s) s.layout (table_of s) (images disk)
      commit_settled disk each =
          resettled images side gate s counted.size settled takes counted.in_layout disk (used_after s) refl
          (subst (λ (b : List ℕ). (c : List ℕ) → images disk c → RecoversWhole s.area side gate c settled.head (settled.bodies ++ b ∷ []))
          waits each)

-- a store with the counts after a commit
pub same_committed : {D : Type 0} (s : StoreState D) (disk : D) (covered used : ℕ) → covered ≡ length s.history → used ≡ used_after s
    → committed s disk ≡ record s { disk = disk; covered = covered; used = used }
same_committed s disk covered used all is =
    ap (λ (n : ℕ). record s { disk = disk; covered = n; used = used_after s }) (sym all)
    ∙ ap (λ (n : ℕ). record s { disk = disk; covered = covered; used = n }) (sym is)

-- The effect of a commit that appends these bytes, the record of the pending entries, to the active area.
module _ {D : Type 0} (honest : D → Type 0) (images : D → List ℕ → Type 0) (s : Inside D)
    (counted : IsCounted (as_state s) s.table s.pending_batch) (live : s.failed ≡ false) (some : 0 < s.pending_batch.count)
    (active_side : honest s.disk → IsConsistent images s.areas.side s.other (as_state s)) (bytes : List ℕ)
    (record_is : 0 < s.pending_batch.count → bytes ≡ record_of (body_of s.pending_batch))
    (short : 0 < s.pending_batch.count → length (body_of s.pending_batch) < 2 ^ 32) (disk : D) where
  -- what an append of the bytes guarantees, as a record of any body, for any contents of the area
  abbrev Promises : (GateState → Head → List (List ℕ) → List ℕ → Type 0) → Type 0
  Promises what =
      (gate : GateState) (head : Head) (bodies : List (List ℕ)) (body : List ℕ) → honest s.disk
      → ((c : List ℕ) → images s.disk c → RecoversWhole s.areas.len s.areas.side gate c head bodies) → s.used ≡ length (opened head bodies)
      → bytes ≡ record_of body → length body < 2 ^ 32 → what gate head bodies body

  promised : (what : GateState → Head → List (List ℕ) → List ℕ → Type 0) → Promises what → (is_honest : honest s.disk)
      → what s.other ((active_side is_honest).settled live).head ((active_side is_honest).settled live).bodies (body_of s.pending_batch)
  promised what grows is_honest =
      let settled = (active_side is_honest).settled live in
      grows s.other settled.head settled.bodies (body_of s.pending_batch) is_honest settled.each settled.used_is (record_is some) (short some)

  -- each image since the commit began, in terms of the store's view
  module _ (moment : D → ℕ) (images_since : D → ℕ → List ℕ → Type 0) where
    abbrev grows_since : GateState → Head → List (List ℕ) → List ℕ → Type 0
    grows_since gate head bodies body =
        EachSince moment images_since s.disk disk (WholeOrGrew s.areas.len s.areas.side gate head bodies body)

    pub commit_moments : Promises grows_since → (v : StoreState D) → as_state s ≡ v → honest v.disk
        → EachSince moment images_since v.disk disk (RecoversToEither v)
    commit_moments grows v is =
        subst (λ (k : StoreState D). honest k.disk → EachSince moment images_since k.disk disk (RecoversToEither k)) is (λ is_honest.
        let settled = (active_side is_honest).settled live in
        weakened moment images_since s.disk disk
        (WholeOrGrew s.areas.len s.areas.side s.other settled.head settled.bodies (body_of s.pending_batch)) (RecoversToEither (as_state s))
        (promised grows_since grows is_honest)
        (commit_each (as_state s) s.table s.pending_batch counted some images s.areas.side s.other settled))

  -- after a completed commit, all images agree on all entries
  abbrev grown_now : GateState → Head → List (List ℕ) → List ℕ → Type 0
  grown_now gate head bodies body =
      (c : List ℕ) → images disk c → RecoversWhole s.areas.len s.areas.side gate c head (bodies ++ body ∷ [])

  pub commit_settles : Promises grown_now → honest s.disk
      → IsSettled s.areas.len s.areas.side s.other s.generation (used_after (as_state s)) s.layout (table_of (as_state s)) (images disk)
  commit_settles grows is_honest =
      commit_settled (as_state s) s.table s.pending_batch counted some images s.areas.side s.other ((active_side is_honest).settled live) disk
      (promised grown_now grows is_honest)
