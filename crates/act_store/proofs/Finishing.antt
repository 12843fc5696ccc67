-- The table that a finished checkpoint recovers to.
use Rattle.std.proofs.Common.{◌≡◌, inl, inr, ⊎_elim, ℕ, ◌+◌, ◌-◌, ◌<◌, ◌≤◌, ◌^◌, List, [], ◌∷◌, ◌++◌, length, take, drop, refl, sym, ◌∙◌, ap, subst, arith}
use Rattle.std.proofs.Common.{Bool, not, append_assoc, drop_of_length-le, length-append}
use Rattle.std.specs.Prelude.{IfSome, IsSomeAnd, None, Option, Some, flat_map, nat_lt, option_map}
use Rattle.std.specs.Int.{to_be_bytes, w32}
use Rattle.std.proofs.lemmas.Bool.{cases_Bool, le-ltb, lt-ltb, ltb-false, ltb-true}
use Rattle.std.specs.List.{AllByRecursion}
use Rattle.std.proofs.lemmas.List.{take_all, length-drop, length-map}
use Rattle.definitions.specs.Disk.{EachSince, Holds}
use Rattle.act_disk.proofs.Moments.{weakened}
use Rattle.definitions.specs.Area.{Fits, Head, head_bytes, record_bytes}
use Rattle.gated_journal.specs.TwoAreas.{other, start_of, Completes}
use Rattle.gated_journal.specs.Whole.{RecoversWhole, WholeOrSwitched}
use Rattle.gated_journal.specs.declared.gate.GateState.{GateState}
use Rattle.gated_journal.specs.declared.gate.GateState.TheVariants.{Open, Closed}
use Rattle.run_plan.specs.declared.command.Command.{Command}
use Rattle.table_model.specs.Step.{after}
use Rattle.table_model.specs.TableState.{TableState}
use Rattle.command_encodings.specs.Commands.{IsEncoded, batch, command_bytes}
use Rattle.act_store.specs.Checkpoints.{IsFinished, finished, first_gate, gate_after, refusal_of_finish}
use Rattle.act_store.specs.Entries.{commands_of, table_after}
use Rattle.act_store.specs.Layouts.{HasCommand, batch_format, current_version, layout_of}
use Rattle.act_store.specs.StoreState.{Checkpoint, StoreState, RecoversToEither, covered_table, table_of}
use Rattle.act_store.specs.inner.LastPart.{bodies_of, front_of, last_part, written_part}
use Rattle.act_store.specs.Images.{MeansTable}
use Rattle.act_store.specs.inner.Promise.{IsBegun, IsCounted, IsPut, IsSettled, IsSnapshot, IsConsistent}
use Rattle.act_store.specs.inner.StoreSeen.{as_checkpoint, as_state}
use Rattle.act_store.specs.PendingBatch.{BatchState, batch_state_of}
use Rattle.act_store.specs.declared.begun.Begun.{Begun}
use Rattle.act_store.specs.declared.entry.Entry.{Entry}
use Rattle.act_store.specs.declared.layout.Layout.{Layout}
use Rattle.act_store.specs.declared.layout.Layout.TheVariants as layouts
use Rattle.act_store.specs.declared.store.Store.TheInside.{Inside}
use Rattle.act_store.proofs.Histories.{table_split}
use Rattle.act_store.proofs.InLayout.{one_layout}
use Rattle.act_store.proofs.LastPart.{last_is}
use Rattle.act_store.proofs.Meanings.{means_more}
use Rattle.act_store.proofs.Records.{length_batch}
use Rattle.act_store.proofs.RefusalsOfCheckpoints.{MayFinish, may_finish}
use Rattle.act_store.proofs.Settling.{settled_at, settled_recovers, recovers_to}
use Rattle.act_store.proofs.Snapshots.{it_is, length_head}

-- ---- the space for the last part

length_bodies : (commands : List Command) (text : ℕ) → first_gate text + length (record_bytes (bodies_of commands)) ≡ gate_after text commands
length_bodies [] text = omega arith
length_bodies (c ∷ cs) text =
    let body = batch.encoding (c ∷ cs) in
    let number = to_be_bytes w32 (length body) in
    let four : length number ≡ 4 = refl in
    omega (arith, four, length-append (number ++ body) [], length-append number body)

-- the test of that space
pub fits_is : (len prefix encoded area : ℕ) (entries : List Entry) → 0 < length entries → 17 ≤ prefix → len ≡ prefix
    → encoded ≡ length (flat_map command_bytes (commands_of entries))
    → nat_lt (len + 10 + encoded) area ≡ not (nat_lt area (gate_after (prefix - 17) (commands_of entries) + 1))
fits_is len prefix encoded area [] some head same is = absurd (omega (arith, some))
fits_is len prefix encoded area (e ∷ es) some head same is =
    let cs = commands_of (e ∷ es) in
    let end = gate_after (prefix - 17) cs + 1 in
    let place : end ≡ len + 10 + encoded + 1 = omega (arith, head, same, is, length_batch cs) in
    elim (cases_Bool (nat_lt area end)) [
      | inl full ↦ le-ltb (len + 10 + encoded) area (omega (arith, place, ltb-true area end full)) ∙ sym (ap (λ (x : Bool). not x) full)
      | inr fits ↦ lt-ltb (len + 10 + encoded) area (omega (arith, place, ltb-false area end fits)) ∙ sym (ap (λ (x : Bool). not x) fits)
    ]

short_bodies : (area text : ℕ) (commands : List Command) → area ≤ 1073741824 → gate_after text commands ≤ area
    → AllByRecursion (λ (body : List ℕ). length body < 2 ^ 32) (bodies_of commands)
short_bodies area text [] most room = _
short_bodies area text (c ∷ cs) most room = (omega (arith, most, room), _)

-- what has room is short
pub later_is_short : (area text : ℕ) (commands : List Command) → area ≤ 1073741824 → gate_after text commands + 1 ≤ area
    → 4 + length (flat_map command_bytes commands) < 2 ^ 32
later_is_short area text [] most room = omega arith
later_is_short area text (c ∷ cs) most room = omega (arith, most, room, length_batch (c ∷ cs))

-- ---- what the new area recovers to

means_with : (head : Head) (table : TableState) (commands : List Command) → length commands ≤ 4294967295
    → AllByRecursion IsEncoded commands → layout_of head.version ≡ Some layouts.Third → MeansTable head [] table
    → MeansTable head (bodies_of commands) (after table commands)
means_with head table [] few encoded second means = means
means_with head table (c ∷ cs) few encoded second means =
    means_more head [] table (c ∷ cs) means
    (subst (λ (l : Layout). (batch_format l).Takes (c ∷ cs)) (one_layout head layouts.Third means.layout second means.layout_is)
    (omega arith, few, encoded))

-- The situation of a finish: the disk switches areas with these bytes, the last part, after what was put.
pub record Finishes {D : Type 0} (honest : D → Type 0) (images : D → List ℕ → Type 0) (seen : D → List ℕ) (s : Inside D) (at : ℕ)
    (bytes : List ℕ) : Type 0 where
  pub counted : IsCounted (as_state s) s.table s.pending_batch
  pub active_side : honest s.disk → IsConsistent images s.areas.side s.other (as_state s)
  pub b : Begun
  pub begun : s.begun ≡ Some b
  pub snapshot : IsSnapshot s.base.value s.history.items s.generation s.areas.len b
  pub may : MayFinish (as_state s) (as_checkpoint b)
  pub put : honest s.disk → IsPut s.areas.len s.areas.side s.other (seen s.disk) b
  pub place : at ≡ 1 + length b.head_and_text.items
  pub is : bytes ≡ last_part (commands_of (drop b.place s.history.items))
  pub encoded : AllByRecursion IsEncoded (commands_of (drop b.place s.history.items))

-- What is known as a checkpoint is finished: what precedes the later commands can be filled in.
pub record FillsIn (count : ℕ) (b : Begun) : Type 0 where
  pub few : count < 2 ^ 32
  pub short : 4 + length b.last.encoded < 2 ^ 32

pub fills_in : {D : Type 0} (honest : D → Type 0) (seen : D → List ℕ) (s : Inside D) → IsCounted (as_state s) s.table s.pending_batch
    → IfSome s.begun (IsBegun s.base.value s.history.items s.generation s.areas.len s.areas.side s.other (honest s.disk) s.failed (seen s.disk))
    → (v : StoreState D) → as_state s ≡ v → refusal_of_finish v ≡ None → (b : Begun) → s.begun ≡ Some b
    → (count : ℕ) → count ≡ length s.history.items - b.place → FillsIn count b
fills_in {D} honest seen s counted begun v view none b some count counts =
    let may = may_finish (as_state s) (as_checkpoint b) (ap (λ (o : Option Begun). option_map as_checkpoint o) some)
    (subst (λ (k : StoreState D). refusal_of_finish k ≡ None) (sym view) none) in
    let so = it_is s.begun b
    (IsBegun s.base.value s.history.items s.generation s.areas.len s.areas.side s.other (honest s.disk) s.failed (seen s.disk)) some begun in
    let later = commands_of (drop b.place s.history.items) in
    record {
      few = omega (arith, counts, counted.most);
      short = omega (
        arith,
        ap (λ (l : List ℕ). length l) so.0.later_is,
        later_is_short s.areas.len (length b.head_and_text.items - 17) later counted.size.most may.room,
      );
    }

-- And what is written is known in that form.
pub finishing : {D : Type 0} (honest : D → Type 0) (images : D → List ℕ → Type 0) (seen : D → List ℕ) (s : Inside D)
    → IsCounted (as_state s) s.table s.pending_batch → (honest s.disk → IsConsistent images s.areas.side s.other (as_state s))
    → IfSome s.begun (IsBegun s.base.value s.history.items s.generation s.areas.len s.areas.side s.other (honest s.disk) s.failed (seen s.disk))
    → (v : StoreState D) → as_state s ≡ v → refusal_of_finish v ≡ None → (b : Begun) → s.begun ≡ Some b → (len : ℕ) → len ≡ length b.head_and_text.items
    → (count : ℕ) → count ≡ length s.history.items - b.place → (bytes : List ℕ)
    → bytes ≡ written_part (record b.last { front = front_of count b.last.encoded }) → Finishes honest images seen s (1 + len) bytes
finishing {D} honest images seen s counted active_side begun v view none b some len prefix count counts bytes is =
    let may = may_finish (as_state s) (as_checkpoint b) (ap (λ (o : Option Begun). option_map as_checkpoint o) some)
    (subst (λ (k : StoreState D). refusal_of_finish k ≡ None) (sym view) none) in
    let so = it_is s.begun b
    (IsBegun s.base.value s.history.items s.generation s.areas.len s.areas.side s.other (honest s.disk) s.failed (seen s.disk)) some begun in
    let later = commands_of (drop b.place s.history.items) in
    let many : count ≡ length later =
    counts ∙ sym (length-map (drop b.place s.history.items) (λ (e : Entry). e.command) ∙ length-drop b.place s.history.items) in
    record {
      counted = counted;
      active_side = active_side;
      b = b;
      begun = some;
      snapshot = so.0;
      may = may;
      put = λ is_honest. so.1 is_honest may.live;
      place = omega (arith, prefix);
      is = is ∙ last_is later (record b.last { front = front_of count b.last.encoded }) so.0.later_is
          (ap (λ (n : ℕ). front_of n b.last.encoded) many);
      encoded = so.0.later_encoded;
    }

module _ {D : Type 0} (honest : D → Type 0) (images : D → List ℕ → Type 0) (seen : D → List ℕ) (s : Inside D)
    (at : ℕ) (bytes : List ℕ) (f : Finishes honest images seen s at bytes) where
  abbrev cs : List Command
  cs = commands_of (drop f.b.place s.history.items)

  abbrev others : List (List ℕ)
  others = bodies_of cs

  abbrev next : Head
  next = record { version = current_version; generation = s.generation + 1; text = f.snapshot.text }

  abbrev first : TableState
  first = table_after s.base.value (take f.b.place s.history.items)

  long_prefix : length f.b.head_and_text.items ≡ 17 + length f.snapshot.text
  long_prefix = ap (λ (l : List ℕ). length l) f.snapshot.prefix_is ∙ length_head (s.generation + 1) f.snapshot.text

  -- there is space for the gate after the last part
  room : gate_after (length f.snapshot.text) cs + 1 ≤ s.areas.len
  room =
      let same : length f.b.head_and_text.items - 17 ≡ length f.snapshot.text = omega (arith, long_prefix) in
      subst (λ (n : ℕ). gate_after n cs + 1 ≤ s.areas.len) same f.may.room

  end : first_gate (length f.snapshot.text) + length (record_bytes others) ≡ gate_after (length f.snapshot.text) cs
  end = length_bodies cs (length f.snapshot.text)

  fits_next : Fits next others
  fits_next = record {
    generation = f.snapshot.newer;
    text = omega (arith, room, end, f.counted.size.most);
    each = short_bodies s.areas.len (length f.snapshot.text) cs f.counted.size.most (omega (arith, room));
  }

  means_first : MeansTable next [] first
  means_first = record {
    layout = layouts.Third;
    layout_is = refl;
    first = first;
    text = f.snapshot.encodes;
    commands = [];
    batched = record { batches = []; takes = _; encoded = refl; commands_are = refl };
    table_is = refl;
  }

  -- the text, and then the entries since
  means_all : MeansTable next others (table_of (as_state s))
  means_all =
      subst (λ (t : TableState). MeansTable next others t) (table_split s.base.value f.b.place s.history.items)
      (means_with next first cs
      (omega (
        arith,
        f.counted.most,
        length-map (drop f.b.place s.history.items) (λ (e : Entry). e.command),
        length-drop f.b.place s.history.items,
      )) f.encoded refl means_first)

  module _ (is_honest : honest s.disk) where
    settled : IsSettled s.areas.len s.areas.side s.other s.generation s.used s.layout (covered_table (as_state s)) (images s.disk)
    settled = (f.active_side is_honest).settled f.may.live

    shut : (c : List ℕ) → images s.disk c → RecoversWhole s.areas.len s.areas.side Closed c settled.head settled.bodies
    shut c now = subst (λ (g : GateState). RecoversWhole s.areas.len s.areas.side g c settled.head settled.bodies) (f.put is_honest).closed
        (settled.each c now)

    completes : Completes s.areas.len s.areas.side (seen s.disk) at bytes settled.head next others
    completes =
        let all : f.b.put ≡ length f.b.head_and_text.items = omega (arith, f.snapshot.put, f.may.none_left) in
        record {
          prefix = f.b.head_and_text.items;
          held = subst (λ (l : List ℕ). Holds (seen s.disk) (start_of s.areas.len (other s.areas.side) + 1) l)
              (take_all f.b.put f.b.head_and_text.items (omega (arith, all))) (f.put is_honest).held;
          place = f.place;
          whole = ap (λ (l : List ℕ). l ++ bytes) f.snapshot.prefix_is ∙ ap (λ (l : List ℕ). head_bytes next ++ l) f.is
              ∙ sym (append_assoc (head_bytes next) (record_bytes others) (0 ∷ []));
          fits = fits_next;
          newer = omega (arith, settled.generation_is);
        }

    either_of : (c : List ℕ) → WholeOrSwitched s.areas.len s.areas.side settled.head settled.bodies next others c
        → RecoversToEither (as_state s) c
    either_of c either = ⊎_elim
        (λ old. inl (recovers_to s.areas.len s.areas.side Closed settled.head settled.bodies (covered_table (as_state s)) c
        f.counted.size old settled.means))
        (λ new. inr (recovers_to s.areas.len (other s.areas.side) Open next others (table_of (as_state s)) c f.counted.size new means_all))
        either

  -- the last part ends within the area
  pub part_fits : at + length bytes ≤ s.areas.len
  part_fits =
      omega (
        arith,
        f.place,
        long_prefix,
        end,
        room,
        ap (λ (l : List ℕ). length l) f.is,
        length-append (record_bytes others) (0 ∷ []),
      )

  -- what the switch of areas guarantees
  abbrev pub Turns : (Head → Head → List (List ℕ) → List (List ℕ) → Type 0) → Type 0
  Turns what =
      (head next : Head) (bodies others : List (List ℕ)) → honest s.disk
      → ((c : List ℕ) → images s.disk c → RecoversWhole s.areas.len s.areas.side Closed c head bodies)
      → Completes s.areas.len s.areas.side (seen s.disk) at bytes head next others → what head next bodies others

  module _ (disk : D) where
    -- each image since the start, in terms of the store's view
    pub finish_moments : (moment : D → ℕ) (images_since : D → ℕ → List ℕ → Type 0)
        → Turns (λ head next bodies others. EachSince moment images_since s.disk disk
        (WholeOrSwitched s.areas.len s.areas.side head bodies next others))
        → (v : StoreState D) → as_state s ≡ v → honest v.disk → EachSince moment images_since v.disk disk (RecoversToEither v)
    finish_moments moment images_since turns v same =
        subst (λ (k : StoreState D). honest k.disk → EachSince moment images_since k.disk disk (RecoversToEither k)) same (λ is_honest.
        weakened moment images_since s.disk disk
        (WholeOrSwitched s.areas.len s.areas.side (settled is_honest).head (settled is_honest).bodies next others)
        (RecoversToEither (as_state s))
        (turns (settled is_honest).head next (settled is_honest).bodies others is_honest (shut is_honest) (completes is_honest))
        (either_of is_honest))

    -- ---- once it is completed

    used_is : at + length bytes - 1 ≡ gate_after (length f.snapshot.text) cs
    used_is =
        omega (arith, f.place, long_prefix, end, ap (λ (l : List ℕ). length l) f.is, length-append (record_bytes others) (0 ∷ []))

    -- and it is where the checkpoint says
    pub used_of : at + length bytes - 1 ≡ gate_after (as_checkpoint f.b).text cs
    used_of =
        let same : length f.b.head_and_text.items - 17 ≡ length f.snapshot.text = omega (arith, long_prefix) in
        used_is ∙ ap (λ (n : ℕ). gate_after n cs) (sym same)

    pub finish_settles : Turns (λ head next bodies others. (c : List ℕ) → images disk c
        → RecoversWhole s.areas.len (other s.areas.side) Open c next others) → honest s.disk
        → IsSettled s.areas.len (other s.areas.side) Open (s.generation + 1) (at + length bytes - 1) layouts.Third (table_of (as_state s))
        (images disk)
    finish_settles turns is_honest = record {
      head = next;
      bodies = others;
      each = turns (settled is_honest).head next (settled is_honest).bodies others is_honest (shut is_honest) (completes is_honest);
      used_is =
          omega (
            arith,
            used_is,
            end,
            long_prefix,
            ap (λ (l : List ℕ). length l) f.snapshot.prefix_is,
            length-append (head_bytes next) (record_bytes others),
          );
      generation_is = refl;
      layout_is = refl;
      means = means_all;
    }

    abbrev pub done : ℕ → ℕ → StoreState D
    done covered used = record (as_state s) {
      disk = disk;
      covered = covered;
      used = used;
      generation = s.generation + 1;
      layout = layouts.Third;
      begun = None;
    }

    module _ (covered used : ℕ) (all : covered ≡ length s.history.items) (here : used ≡ at + length bytes - 1) where
      -- the checkpoint that was begun is finished
      pub is_finished : (v : StoreState D) → as_state s ≡ v → IsFinished v (done covered used)
      is_finished v same =
          let checkpoint = as_checkpoint f.b in
          let now : done covered used ≡ finished (as_state s) checkpoint disk =
          ap (λ n. done n used) all ∙ ap (λ n. done (length s.history.items) n) (here ∙ used_of) in
          let begun : Some checkpoint ≡ option_map as_checkpoint s.begun = sym (ap (λ (o : Option Begun). option_map as_checkpoint o) f.begun) in
          subst (λ (k : StoreState D). IsFinished k (done covered used)) same
          (subst (λ (o : Option Checkpoint). IsSomeAnd o (λ (c : Checkpoint). done covered used ≡ finished (as_state s) c disk)) begun now)

      pub counted_finished : (left : BatchState) → left ≡ batch_state_of [] → IsCounted (done covered used) s.table left
      counted_finished left nothing =
          let none : drop covered s.history.items ≡ [] = drop_of_length-le s.history.items (omega (arith, all)) in
          record {
            sound = f.counted.sound;
            legal = f.counted.legal;
            table_is = f.counted.table_is;
            covers = omega (arith, all);
            most = f.counted.most;
            size = f.counted.size;
            gate_fits = omega (arith, here, used_is, room);
            record_fits = λ less. absurd (omega (arith, less, all));
            encoded = subst (λ (l : List Entry). AllByRecursion IsEncoded (commands_of l)) (sym none) _;
            in_layout = subst (λ (l : List Entry). AllByRecursion (HasCommand layouts.Third) (commands_of l)) (sym none) _;
            pending_batch_is = nothing ∙ ap (λ (l : List Entry). batch_state_of (commands_of l)) (sym none);
          }

      pub consistent_finished : IsSettled s.areas.len (other s.areas.side) Open (s.generation + 1) (at + length bytes - 1)
          layouts.Third (table_of (as_state s)) (images disk)
          → IsConsistent images (other s.areas.side) Open (done covered used)
      consistent_finished now =
          let same : table_of (as_state s) ≡ covered_table (done covered used) =
          ap (λ (l : List Entry). table_after s.base.value l) (sym (take_all covered s.history.items (omega (arith, all)))) in
          let again = settled_at s.areas.len (other s.areas.side) Open (s.generation + 1) used layouts.Third (table_of (as_state s))
          (covered_table (done covered used)) (images disk) same
          (subst (λ (n : ℕ). IsSettled s.areas.len (other s.areas.side) Open (s.generation + 1) n layouts.Third (table_of (as_state s)) (images disk))
          (sym here) now) in
          record {
            each = λ c there. inl (settled_recovers s.areas.len (other s.areas.side) Open (s.generation + 1) used layouts.Third
                (covered_table (done covered used)) (images disk) f.counted.size again c there);
            settled = λ _. again;
          }
