-- The effect of beginning a checkpoint and writing its slices.
use Rattle.std.proofs.Common.{◌≡◌, inl, ⊎_elim, ℕ, ◌+◌, ◌<◌, ◌≤◌, List, [], ◌∷◌, ◌++◌, length, sym, ◌∙◌, ap, subst, arith}
use Rattle.std.proofs.Common.{Bool, true, false, drop_of_length-le, length-append}
use Rattle.std.specs.Prelude.{Option, flat_map, map}
use Rattle.std.proofs.lemmas.List.{take_all, length-map}
use Rattle.definitions.specs.Disk.{EachSince}
use Rattle.act_disk.proofs.Moments.{weakened}
use Rattle.definitions.specs.Area.{Head}
use Rattle.gated_journal.specs.Whole.{RecoversWhole, WholeEither}
use Rattle.gated_journal.specs.declared.gate.GateState.{GateState}
use Rattle.gated_journal.specs.declared.gate.GateState.TheVariants.{Open, Closed}
use Rattle.gated_journal.specs.declared.side.Side.{Side}
use Rattle.table_model.specs.Parts.{stored_run}
use Rattle.table_model.specs.Sound.{IsSound}
use Rattle.stored_tables.specs.Stored.{RunnerParts, stored_runner}
use Rattle.table_model.specs.TableState.{TableState}
use Rattle.table_laws.proofs.ReachedTables.{after_is_sound}
use Rattle.command_encodings.specs.Commands.{number}
use Rattle.definitions.specs.Format.{pair, word_bytes, text_bytes}
use Rattle.table_text.specs.Tables.{forgotten, last_command, lease, runner, run}
use Rattle.command_encodings.proofs.LengthLaws.{length_text}
use Rattle.act_store.specs.Checkpoints.{first_gate, text_length}
use Rattle.act_store.specs.Entries.{commands_of, table_after}
use Rattle.act_store.specs.StoreState.{Checkpoint, StoreState, RecoversToEither, covered_table, table_of}
use Rattle.act_store.specs.inner.Promise.{IsCounted, IsSettled, IsConsistent}
use Rattle.act_store.specs.inner.StoreSeen.{as_state}
use Rattle.act_store.specs.PendingBatch.{BatchState, batch_state_of}
use Rattle.act_store.specs.declared.entry.Entry.{Entry}
use Rattle.act_store.specs.declared.store.Store.TheInside.{Inside}
use Rattle.act_store.proofs.RefusalsOfCheckpoints.{MayBegin}
use Rattle.act_store.proofs.Settling.{settled_recovers, recovers_to}

-- ---- the text of a table has room for the number of its runners

runner_some : (r : RunnerParts) → 1 ≤ length (runner.encoding r)
runner_some r =
    omega (
      arith,
      length_text r.name,
      length-append (text_bytes r.name) ((pair number (pair last_command lease)).encoding (r.number, (r.last, r.holds))),
    )

runners_some : (rs : List RunnerParts) → length rs ≤ length (flat_map runner.encoding rs)
runners_some [] = omega arith
runners_some (r ∷ rs) =
    omega (arith, runner_some r, runners_some rs, length-append (runner.encoding r) (flat_map runner.encoding rs))

runners_within : (t : TableState) → length t.runners ≤ text_length t
runners_within t =
    let rs = map stored_runner t.runners in
    let last = word_bytes t.last_lease in
    let gone = forgotten.encoding t.forgotten in
    let parts = map stored_run t.runs in
    let runs = word_bytes (length parts) ++ flat_map run.encoding parts in
    let suffix = word_bytes (length rs) ++ flat_map runner.encoding rs in
    omega (
      arith,
      runners_some rs,
      length-map t.runners stored_runner,
      length-append last (gone ++ (runs ++ suffix)),
      length-append gone (runs ++ suffix),
      length-append runs suffix,
      length-append (word_bytes (length rs)) (flat_map runner.encoding rs),
    )

module _ {D : Type 0} (s : StoreState D) (table : TableState) (pending_batch : BatchState) (counted : IsCounted s table pending_batch) where
  pub few_runners : MayBegin s → length table.runners ≤ 4294967295
  few_runners may =
      omega (arith, ap (λ (t : TableState). length t.runners) counted.table_is, runners_within (table_of s), may.room, counted.size.most)

  pub too_many : (runners : ℕ) → runners ≡ length table.runners → 4294967295 < runners
      → s.area < first_gate (text_length (table_of s)) + 1
  too_many runners is more =
      omega (arith, is, more, ap (λ (t : TableState). length t.runners) counted.table_is, runners_within (table_of s), counted.size.most)

  -- the table in memory is sound, since the base is
  pub table_sound : IsSound table
  table_sound = subst (λ (t : TableState). IsSound t) (sym counted.table_is) (after_is_sound s.base (commands_of s.history) counted.sound)

  -- ---- where all entries are covered

  pub all_table : length s.history ≤ s.covered → covered_table s ≡ table
  all_table all = ap (λ (l : List Entry). table_after s.base l) (take_all s.covered s.history all) ∙ sym counted.table_is

  pub nothing_waits : length s.history ≤ s.covered → pending_batch ≡ batch_state_of []
  nothing_waits all = counted.pending_batch_is
      ∙ ap (λ (l : List Entry). batch_state_of (commands_of l)) (drop_of_length-le s.history all)

  -- ---- with another checkpoint

  pub counted_with : (disk : D) (checkpoint : Option Checkpoint) (failed : Bool)
      → IsCounted (record s { disk = disk; begun = checkpoint; failed = failed }) table pending_batch
  counted_with disk checkpoint failed = record {
    sound = counted.sound;
    legal = counted.legal;
    table_is = counted.table_is;
    covers = counted.covers;
    most = counted.most;
    size = counted.size;
    gate_fits = counted.gate_fits;
    record_fits = counted.record_fits;
    encoded = counted.encoded;
    in_layout = counted.in_layout;
    pending_batch_is = counted.pending_batch_is;
  }

  pub consistent_failed : (images : D → List ℕ → Type 0) (side : Side) (gate : GateState) (disk : D) (checkpoint : Option Checkpoint)
      → ((c : List ℕ) → images disk c → RecoversToEither s c)
      → IsConsistent images side gate (record s { disk = disk; begun = checkpoint; failed = true })
  consistent_failed images side gate disk checkpoint each = record { each = each; settled = λ impossible. absurd (cc impossible) }

  -- where all images agree again on the covered entries
  pub consistent_with : (images : D → List ℕ → Type 0) (side : Side) (gate : GateState) (disk : D) (checkpoint : Option Checkpoint)
      → IsSettled s.area side gate s.generation s.used s.layout (covered_table s) (images disk)
      → IsConsistent images side gate (record s { disk = disk; begun = checkpoint })
  consistent_with images side gate disk checkpoint settled = record {
    each = λ c now. inl (settled_recovers s.area side gate s.generation s.used s.layout (covered_table s) (images disk) counted.size settled c now);
    settled = λ _. settled;
  }

  module _ (images : D → List ℕ → Type 0) (side : Side) (gate : GateState)
      (settled : IsSettled s.area side gate s.generation s.used s.layout (covered_table s) (images s.disk)) where
    -- the same head and bodies, with the current state of the other gate
    pub settled_again : (now : GateState) (disk : D)
        → ((c : List ℕ) → images disk c → RecoversWhole s.area side now c settled.head settled.bodies)
        → IsSettled s.area side now s.generation s.used s.layout (covered_table s) (images disk)
    settled_again now disk each = record {
      head = settled.head;
      bodies = settled.bodies;
      each = each;
      used_is = settled.used_is;
      generation_is = settled.generation_is;
      layout_is = settled.layout_is;
      means = settled.means;
    }

    whole_recovers : (now : GateState) (c : List ℕ) → RecoversWhole s.area side now c settled.head settled.bodies → RecoversToEither s c
    whole_recovers now c recovers =
        inl (recovers_to s.area side now settled.head settled.bodies (covered_table s) c counted.size recovers settled.means)

    -- after a slice, with the other gate closed
    pub slice_settles : (disk : D) → gate ≡ Closed
        → (((c : List ℕ) → images s.disk c → RecoversWhole s.area side Closed c settled.head settled.bodies)
        → (c : List ℕ) → images disk c → RecoversWhole s.area side Closed c settled.head settled.bodies)
        → IsSettled s.area side gate s.generation s.used s.layout (covered_table s) (images disk)
    slice_settles disk closed goes_on =
        settled_again gate disk (λ c now. subst (λ (g : GateState). RecoversWhole s.area side g c settled.head settled.bodies) (sym closed)
        (goes_on (λ c now. subst (λ (g : GateState). RecoversWhole s.area side g c settled.head settled.bodies) closed (settled.each c now)) c now))

    close_recovers : (c : List ℕ) → WholeEither s.area side settled.head settled.bodies c → RecoversToEither s c
    close_recovers c either = ⊎_elim (whole_recovers Open c) (whole_recovers Closed c) either

-- each image since a call began, in terms of the store's view
module _ {D : Type 0} (honest : D → Type 0) (images : D → List ℕ → Type 0) (s : Inside D)
    (counted : IsCounted (as_state s) s.table s.pending_batch) (live : s.failed ≡ false)
    (active_side : honest s.disk → IsConsistent images s.areas.side s.other (as_state s)) (disk : D)
    (moment : D → ℕ) (images_since : D → ℕ → List ℕ → Type 0) where
  pub begin_moments : ((head : Head) (bodies : List (List ℕ)) → honest s.disk
      → ((c : List ℕ) → images s.disk c → RecoversWhole s.areas.len s.areas.side s.other c head bodies)
      → EachSince moment images_since s.disk disk (WholeEither s.areas.len s.areas.side head bodies))
      → (v : StoreState D) → as_state s ≡ v → honest v.disk → EachSince moment images_since v.disk disk (RecoversToEither v)
  begin_moments closes v is =
      subst (λ (k : StoreState D). honest k.disk → EachSince moment images_since k.disk disk (RecoversToEither k)) is (λ is_honest.
      let settled = (active_side is_honest).settled live in
      weakened moment images_since s.disk disk (WholeEither s.areas.len s.areas.side settled.head settled.bodies)
      (RecoversToEither (as_state s)) (closes settled.head settled.bodies is_honest settled.each)
      (close_recovers (as_state s) s.table s.pending_batch counted images s.areas.side s.other settled))

  pub slice_moments : (honest s.disk → s.other ≡ Closed)
      → ((head : Head) (bodies : List (List ℕ)) → honest s.disk
      → ((c : List ℕ) → images s.disk c → RecoversWhole s.areas.len s.areas.side Closed c head bodies)
      → EachSince moment images_since s.disk disk (λ c. RecoversWhole s.areas.len s.areas.side Closed c head bodies))
      → (v : StoreState D) → as_state s ≡ v → honest v.disk → EachSince moment images_since v.disk disk (RecoversToEither v)
  slice_moments closed puts v is =
      subst (λ (k : StoreState D). honest k.disk → EachSince moment images_since k.disk disk (RecoversToEither k)) is (λ is_honest.
      let settled = (active_side is_honest).settled live in
      weakened moment images_since s.disk disk (λ c. RecoversWhole s.areas.len s.areas.side Closed c settled.head settled.bodies)
      (RecoversToEither (as_state s))
      (puts settled.head settled.bodies is_honest (λ c now.
      subst (λ (g : GateState). RecoversWhole s.areas.len s.areas.side g c settled.head settled.bodies) (closed is_honest) (settled.each c now)))
      (whole_recovers (as_state s) s.table s.pending_batch counted images s.areas.side s.other settled Closed))
