-- What a service guarantees, from one call to the next.
use Rattle.std.proofs.Common.{◌≡◌, ⊎_elim, ℕ, ◌+◌, ◌<◌, ◌≤◌, true, false, Bool, List, [], ◌∷◌, ◌++◌, length, take, refl, sym, ap, subst, ◌∙◌, inl, inr, append-nil, append_assoc, length-append, arith, Ok, Err, zero, suc}
use Rattle.std.specs.Prelude.{◌↔◌, ◌≢◌, ◌==◌, drop, IfErr, IfNone, IfSome, IsTrue, replicate, slice_get, slice_set, Some, None, Option, Result, OnOk, OnErr, is_some, nat_lt, ◌||◌, if◌then◌else◌}
use Rattle.std.specs.List.{AllByRecursion}
use Rattle.std.proofs.Math.Nat.{eq-or-lt_of_le}
use Rattle.std.proofs.lemmas.Bool.Decides.{nat_tests}
use Rattle.std.proofs.lemmas.List.{length-set, map-append, take_all}
use Rattle.wf_value.specs.declared.refusal.Refusal.{Refusal}
use Rattle.act_disk.specs.Failed.{device_failed}
use Rattle.run_plan.specs.declared.command.Command.{Command}
use Rattle.run_plan.specs.declared.reply.Reply.{Reply}
use Rattle.table_model.specs.Step.{after as run_after, replies, stepped}
use Rattle.table_model.specs.Sound.{IsSound}
use Rattle.table_model.specs.TableState.{TableState}
use Rattle.act_store.specs.Entries.{IsLegal, commands_of, replies_of, table_after}
use Rattle.act_store.specs.Images.{RecoversTo}
use Rattle.act_store.specs.Plain.{broken, checkpoint_order, committed, failed_earlier, refusal_of_turn_over, turned_over}
use Rattle.act_store.specs.StoreState.{RecoversToEither, RecoversToSome, StoreState}
use Rattle.act_store.specs.declared.entry.Entry.{Entry}
use Rattle.act_store.proofs.GroupsOfHistory.{keeps_groups}
use Rattle.client_loop.specs.Clients.{AreServed, ClientDiscards, ClientParts, ClientSends, ClientState, SlotChanges, SlotDiscards, SlotHears, SlotJoins, SlotLeaves, SlotParts, SlotSends, SlotState, Wire}
use Rattle.client_loop.specs.Clients.{clients_of, free_slot, listed}
use Rattle.client_loop.specs.Conversation.{Conversation, no_conversation}
use Rattle.client_loop.specs.Entering.{entries_of, part_of}
use Rattle.client_loop.specs.Events.{IsBroken}
use Rattle.client_loop.specs.Service.{IsPromised, IsService, ServiceState, covered_of, history_of, pending_of}
use Rattle.client_loop.specs.Slots.{AllServed, AreFree, ChangesSlot, SlotsState}
use Rattle.client_loop.proofs.PendingPart.{last_part}
use Rattle.client_loop.proofs.Served.{entries_within, extends, other_part, same_item, served_all, served_at, served_beside}
use Rattle.client_loop.proofs.Served.{served_discards, served_hears, served_joins, served_parts, served_sends, within_append}

-- ---- lists of entries and the tables that they lead to

after_both : (t : TableState) (first second : List Command) → run_after t (first ++ second) ≡ run_after (run_after t first) second
after_both t [] second = refl
after_both t (c ∷ cs) second = after_both (stepped t c).table cs second

replies-append : (t : TableState) (xs ys : List Command) → replies t (xs ++ ys) ≡ replies t xs ++ replies (run_after t xs) ys
replies-append t [] ys = refl
replies-append t (x ∷ xs) ys = ap (λ (l : List Reply). (stepped t x).reply ∷ l) (replies-append (stepped t x).table xs ys)

commands-append : (one two : List Entry) → commands_of (one ++ two) ≡ commands_of one ++ commands_of two
commands-append one two = map-append (λ (e : Entry). e.command) one two

pub table-append : (base : TableState) (one two : List Entry) → table_after base (one ++ two) ≡ table_after (table_after base one) two
table-append base one two =
    ap (λ (l : List Command). run_after base l) (commands-append one two) ∙ after_both base (commands_of one) (commands_of two)

pub legal-append : (origin base : TableState) (past history : List Entry) → base ≡ table_after origin past → IsLegal origin past → IsLegal base history
    → IsLegal origin (past ++ history)
legal-append origin base past history is first second =
    map-append (λ (e : Entry). e.reply) past history
    ∙ ap (λ (l : List Reply). l ++ replies_of history) first
    ∙ ap (λ (l : List Reply). replies origin (commands_of past) ++ l) second
    ∙ ap (λ (t : TableState). replies origin (commands_of past) ++ replies t (commands_of history)) is
    ∙ sym (replies-append origin (commands_of past) (commands_of history))
    ∙ ap (λ (l : List Command). replies origin l) (sym (commands-append past history))

take_past : (past history : List Entry) (n : ℕ) → take (length past + n) (past ++ history) ≡ past ++ take n history
take_past [] history n = let same : 0 + n ≡ n = omega arith in ap (λ (k : ℕ). take k history) same
take_past (e ∷ past) history n =
    let same : length (e ∷ past) + n ≡ suc (length past + n) = omega arith in
    ap (λ (k : ℕ). take k (e ∷ (past ++ history))) same ∙ ap (λ (l : List Entry). e ∷ l) (take_past past history n)

-- an image of the store is one of the service
pub some_of_either : {D : Type 0} (s : ServiceState D) → s.store.base ≡ table_after s.origin s.past → s.store.covered ≤ length s.store.history
    → (c : List ℕ) → RecoversToEither s.store c → RecoversToSome s.origin (history_of s) (covered_of s) c
some_of_either s base within c either =
    let at : (n : ℕ) → table_after s.store.base (take n s.store.history) ≡ table_after s.origin (take (length s.past + n) (history_of s)) =
    λ n. ap (λ (t : TableState). table_after t (take n s.store.history)) base
    ∙ sym (table-append s.origin s.past (take n s.store.history))
    ∙ ap (λ (l : List Entry). table_after s.origin l) (sym (take_past s.past s.store.history n)) in
    let e = length-append s.past s.store.history in
    ⊎_elim
    (λ some. record {
      count = covered_of s;
      from = omega arith;
      within = omega (arith, within, e);
      recovers = subst (λ (t : TableState). RecoversTo t c) (at s.store.covered) some;
    })
    (λ all. record {
      count = length s.past + length s.store.history;
      from = omega (arith, within);
      within = omega (arith, e);
      recovers = subst (λ (t : TableState). RecoversTo t c)
          (ap (λ (l : List Entry). table_after s.store.base l) (sym (take_all (length s.store.history) s.store.history (omega arith)))
          ∙ at (length s.store.history)) all;
    }) either

-- ---- one slot

-- the service with another state of a slot
abbrev pub with_slot : {D : Type 0} → ServiceState D → StoreState D → ℕ → SlotState → ServiceState D
with_slot s store i x = record s { store = store; slots = record s.slots { all = slice_set s.slots.all i x } }

module _ {D : Type 0} (p : ℕ → Conversation → Type 0) (s : ServiceState D) (service : IsService p s) (within : s.store.covered ≤ length s.store.history) where
  abbrev H : List Entry
  H = history_of s

  pub inside : covered_of s ≤ length H
  inside = let e = length-append s.past s.store.history in omega arith

  -- another state of a slot, with the same store
  slots_at : (i : ℕ) (was now : SlotState) → slice_get s.slots.all i ≡ Some was
      → (AreServed p H (covered_of s) i (clients_of was) → AreServed p H (covered_of s) i (clients_of now))
      → IsService p (with_slot s s.store i now)
  slots_at i was now at own = record {
    base = service.base;
    sound = service.sound;
    legal = service.legal;
    served = served_at p H H (covered_of s) (covered_of s) 0 i s.slots.all now
        (λ found is served. subst (λ (k : ℕ). AreServed p H (covered_of s) k (clients_of now)) (omega arith)
        (own (subst (λ (l : SlotState). AreServed p H (covered_of s) i (clients_of l)) (same_item found was (sym is ∙ at))
        (subst (λ (k : ℕ). AreServed p H (covered_of s) k (clients_of found)) (omega arith) served))))
        (λ k clients apart served. served) service.served;
    others = subst (λ (n : ℕ). AllByRecursion (λ (e : Entry). e.seat < n) H) (sym (length-set s.slots.all i now)) service.others;
  }

  -- another state of the client that has a slot
  changes_at : (R : ClientState → ClientState → Type 0) (i : ℕ) (was now : SlotState) → slice_get s.slots.all i ≡ Some was → SlotChanges R was now
      → ((c d : ClientState) → R c d → AreServed p H (covered_of s) i (was.earlier ++ c ∷ []) → AreServed p H (covered_of s) i (was.earlier ++ d ∷ []))
      → IsService p (with_slot s s.store i now)
  changes_at R i was now at (c, d, here, is, so) own = slots_at i was now at
      (λ served. subst (λ (l : SlotState). AreServed p H (covered_of s) i (clients_of l)) (sym is)
      (own c d so (subst (λ (o : Option ClientState). AreServed p H (covered_of s) i (was.earlier ++ listed o)) here served)))

  sends_at : (i n : ℕ) (was now : SlotState) → slice_get s.slots.all i ≡ Some was → part_of i (pending_of s) ≡ [] → SlotSends (p i) n was now
      → IsService p (with_slot s s.store i now)
  sends_at i n was now at none sends = changes_at (ClientSends (p i) n) i was now at sends (served_sends p H (covered_of s) i inside was.earlier none n)

  parts_at : (i : ℕ) (farewell : List ℕ) (was now : SlotState) → slice_get s.slots.all i ≡ Some was → SlotParts (p i) farewell was now
      → IsService p (with_slot s s.store i now)
  parts_at i farewell was now at parts = changes_at (ClientParts (p i) farewell) i was now at parts (served_parts p H (covered_of s) i inside was.earlier farewell)

  discards_at : (i : ℕ) (was now : SlotState) → slice_get s.slots.all i ≡ Some was → SlotDiscards was now → IsService p (with_slot s s.store i now)
  discards_at i was now at discards = changes_at ClientDiscards i was now at discards (served_discards p H (covered_of s) i inside was.earlier)

  joins_at : (i : ℕ) (wire : Wire) → p i no_conversation → (was now : SlotState) → slice_get s.slots.all i ≡ Some was → SlotJoins wire was now
      → IsService p (with_slot s s.store i now)
  joins_at i wire follows was now at joins = slots_at i was now at
      (λ served. subst (λ (l : SlotState). AreServed p H (covered_of s) i (clients_of l)) (sym joins.1)
      (served_joins p H (covered_of s) i inside was.earlier follows wire
      (subst (AreServed p H (covered_of s) i) (append-nil was.earlier)
      (subst (λ (o : Option ClientState). AreServed p H (covered_of s) i (was.earlier ++ listed o)) joins.0 served))))

  leaves_at : (i : ℕ) (was now : SlotState) → slice_get s.slots.all i ≡ Some was → SlotLeaves was now → IsService p (with_slot s s.store i now)
  leaves_at i was now at is = slots_at i was now at
      (λ served. subst (λ (l : SlotState). AreServed p H (covered_of s) i (clients_of l)) (sym is)
      (subst (AreServed p H (covered_of s) i) (sym (append-nil (clients_of was))) served))

  hears_at : (i : ℕ) (piece : List ℕ) (store : StoreState D) (was now : SlotState) → slice_get s.slots.all i ≡ Some was → i < length s.slots.all
      → SlotHears (p i) i piece s.store store was now → IsService p (with_slot s store i now)
  hears_at i piece store was now at below (c, d, client, new_is, h) =
      let hears = h.hears in
      let more = entries_of i hears.exchanges in
      let grown = extends i s.store store hears.exchanges hears.enters in
      let history_is : history_of (with_slot s store i now) ≡ H ++ more =
      ap (λ (l : List Entry). s.past ++ l) grown.history ∙ sym (append_assoc s.past s.store.history more) in
      let covered_is : length s.past + store.covered ≡ covered_of s = ap (λ (k : ℕ). length s.past + k) grown.covered in
      let all : AllServed p (H ++ more) (covered_of s) 0 (slice_set s.slots.all i now) =
      served_at p H (H ++ more) (covered_of s) (covered_of s) 0 i s.slots.all now
      (λ found is served. subst (λ (k : ℕ). AreServed p (H ++ more) (covered_of s) k (clients_of now)) (omega arith)
      (subst (λ (l : SlotState). AreServed p (H ++ more) (covered_of s) i (clients_of l)) (sym new_is)
      (served_hears p H (covered_of s) i inside was.earlier piece s.store store c d h
      (subst (λ (o : Option ClientState). AreServed p H (covered_of s) i (was.earlier ++ listed o)) client
      (subst (λ (l : SlotState). AreServed p H (covered_of s) i (clients_of l)) (same_item found was (sym is ∙ at))
      (subst (λ (k : ℕ). AreServed p H (covered_of s) k (clients_of found)) (omega arith) served))))))
      (λ k clients apart served. served_beside H more (covered_of s) (covered_of s) k inside (omega arith) p clients
      (other_part k i (λ same. apart (omega (arith, same))) hears.exchanges) served) service.served in
      record {
        base = grown.base ∙ service.base;
        sound = service.sound;
        legal = service.legal;
        served = subst (λ (l : List Entry). AllServed p l (length s.past + store.covered) 0 (slice_set s.slots.all i now)) (sym history_is)
            (subst (λ (k : ℕ). AllServed p (H ++ more) k 0 (slice_set s.slots.all i now)) (sym covered_is) all);
        others = subst (λ (l : List Entry). AllByRecursion (λ (e : Entry). e.seat < length (slice_set s.slots.all i now)) l) (sym history_is)
            (subst (λ (n : ℕ). AllByRecursion (λ (e : Entry). e.seat < n) (H ++ more)) (sym (length-set s.slots.all i now))
            (within_append (length s.slots.all) H more service.others (entries_within (length s.slots.all) i below hears.exchanges)));
      }

  -- ---- the history

  -- the same entries, of which more may be covered
  pub service_covers : (store : StoreState D) → store.base ≡ s.store.base → store.history ≡ s.store.history → s.store.covered ≤ store.covered
      → IsService p (record s { store = store })
  service_covers store base history grows =
      let history_is : s.past ++ store.history ≡ H = ap (λ (l : List Entry). s.past ++ l) history in
      let all : AllServed p H (length s.past + store.covered) 0 s.slots.all =
      served_all p H H (covered_of s) (length s.past + store.covered) 0 s.slots.all
      (λ k clients served. subst (λ (l : List Entry). AreServed p l (length s.past + store.covered) k clients) (append-nil H)
      (served_beside H [] (covered_of s) (length s.past + store.covered) k inside (omega (arith, grows)) p clients refl served)) service.served in
      record {
        base = base ∙ service.base;
        sound = service.sound;
        legal = service.legal;
        served = subst (λ (l : List Entry). AllServed p l (length s.past + store.covered) 0 s.slots.all) (sym history_is) all;
        others = subst (λ (l : List Entry). AllByRecursion (λ (e : Entry). e.seat < length s.slots.all) l) (sym history_is) service.others;
      }

  -- the store's history restarts
  pub service_turns : IsLegal s.store.base s.store.history → s.store.covered ≡ length s.store.history → (past : List Entry) → past ≡ s.past ++ s.store.history
      → IsService p (record s { store = turned_over s.store; past = past })
  service_turns legal all past past_is =
      let P : List Entry → Type 0 = λ l. IsService p (record s { store = turned_over s.store; past = l }) in
      let history_is : H ++ [] ≡ H = append-nil H in
      let covered_is : length H + 0 ≡ covered_of s = let e = length-append s.past s.store.history in omega arith in
      subst P (sym past_is) (record {
        base = ap (λ (t : TableState). table_after t s.store.history) service.base ∙ sym (table-append s.origin s.past s.store.history);
        sound = service.sound;
        legal = legal-append s.origin s.store.base s.past s.store.history service.base service.legal legal;
        served = subst (λ (l : List Entry). AllServed p l (length H + 0) 0 s.slots.all) (sym history_is)
            (subst (λ (k : ℕ). AllServed p H k 0 s.slots.all) (sym covered_is) service.served);
        others = subst (λ (l : List Entry). AllByRecursion (λ (e : Entry). e.seat < length s.slots.all) l) (sym history_is) service.others;
      })

  pub service_promises : (honest : D → Type 0) (images : D → List ℕ → Type 0) → IsLegal s.store.base s.store.history
      → (honest s.store.disk → (c : List ℕ) → images s.store.disk c → RecoversToEither s.store c) → IsPromised p honest images s
  service_promises honest images legal promise = record {
    legal = legal-append s.origin s.store.base s.past s.store.history service.base service.legal legal;
    groups = keeps_groups s.origin H service.sound;
    within = inside;
    served = service.served;
    others = service.others;
    recovers = λ is_honest c left. some_of_either s service.base within c (promise is_honest c left);
  }

-- ---- a change of one slot, under the protocols by the number of hooks

module _ {D : Type 0} (follows_by : ℕ → ℕ → Conversation → Type 0) (s : ServiceState D) (service : IsService (follows_by s.slots.hooks) s)
    (within : s.store.covered ≤ length s.store.history) where
  abbrev p : ℕ → Conversation → Type 0
  p = follows_by s.slots.hooks

  moved : (store : StoreState D) (i : ℕ) (x : SlotState) (slots : SlotsState) → slots ≡ record s.slots { all = slice_set s.slots.all i x }
      → IsService p (with_slot s store i x) → IsService (follows_by slots.hooks) (record s { store = store; slots = slots })
  moved store i x slots is new =
      let P : SlotsState → Type 0 = λ k. IsService (follows_by k.hooks) (record s { store = store; slots = k }) in
      subst P (sym is) new

  pub service_leaves : (i : ℕ) (slots : SlotsState) → ChangesSlot SlotLeaves i s.slots slots → IsService (follows_by slots.hooks) (record s { slots = slots })
  service_leaves i slots change =
      moved s.store i change.now slots change.is (leaves_at p s service within i change.was change.now change.at change.so)

  pub service_hears : (i : ℕ) (piece : List ℕ) (store : StoreState D) (slots : SlotsState) → i < length s.slots.all
      → ChangesSlot (SlotHears (p i) i piece s.store store) i s.slots slots → IsService (follows_by slots.hooks) (record s { store = store; slots = slots })
  service_hears i piece store slots below change =
      moved store i change.now slots change.is (hears_at p s service within i piece store change.was change.now change.at below change.so)

  service_same : (slots : SlotsState) → slots ≡ s.slots → IsService (follows_by slots.hooks) (record s { slots = slots })
  service_same slots same =
      let P : SlotsState → Type 0 = λ k. IsService (follows_by k.hooks) (record s { slots = k }) in
      subst P (sym same) service

  same_all : (store : StoreState D) (slots : SlotsState) → slots ≡ s.slots → store ≡ s.store → IsService (follows_by slots.hooks) (record s { store = store; slots = slots })
  same_all store slots same still =
      let P : StoreState D → Type 0 = λ k. IsService (follows_by slots.hooks) (record s { store = k; slots = slots }) in
      subst P (sym still) (service_same slots same)

  -- of a call that may change nothing

  pub service_hears_some : (i : ℕ) (store : StoreState D) (slots : SlotsState) → i < length s.slots.all → (buffer : ℕ → List ℕ) (result : Option ℕ)
      → IfSome result (λ n. ChangesSlot (SlotHears (p i) i (buffer n) s.store store) i s.slots slots)
      → IfNone result ((slots ≡ s.slots) × (store ≡ s.store)) → IsService (follows_by slots.hooks) (record s { store = store; slots = slots })
  service_hears_some i store slots below buffer (Some n) change same = service_hears i (buffer n) store slots below change
  service_hears_some i store slots below buffer None change same = same_all store slots same.0 same.1

  pub service_hears_or_not : (i : ℕ) (store : StoreState D) (slots : SlotsState) → i < length s.slots.all → (piece : List ℕ) (heard : Bool)
      → (heard ≡ true → ChangesSlot (SlotHears (p i) i piece s.store store) i s.slots slots)
      → (heard ≡ false → (slots ≡ s.slots) × (store ≡ s.store)) → IsService (follows_by slots.hooks) (record s { store = store; slots = slots })
  service_hears_or_not i store slots below piece true change same = service_hears i piece store slots below (change refl)
  service_hears_or_not i store slots below piece false change same = same_all store slots (same refl).0 (same refl).1

  pub service_sends_some : (i : ℕ) (slots : SlotsState) → part_of i (pending_of s) ≡ [] → (result : Option ℕ)
      → IfSome result (λ n. ChangesSlot (SlotSends (p i) n) i s.slots slots) → IfNone result (slots ≡ s.slots)
      → IsService (follows_by slots.hooks) (record s { slots = slots })
  service_sends_some i slots none (Some n) change same =
      moved s.store i change.now slots change.is (sends_at p s service within i n change.was change.now change.at none change.so)
  service_sends_some i slots none None change same = service_same slots same

  pub service_discards_some : (i : ℕ) (slots : SlotsState) (result : Option ℕ) → IfSome result (λ n. ChangesSlot SlotDiscards i s.slots slots)
      → IfNone result (slots ≡ s.slots) → IsService (follows_by slots.hooks) (record s { slots = slots })
  service_discards_some i slots (Some n) change same =
      moved s.store i change.now slots change.is (discards_at p s service within i change.was change.now change.at change.so)
  service_discards_some i slots None change same = service_same slots same

  pub service_joins_or_not : (i : ℕ) (wire : Wire) (slots : SlotsState) → p i no_conversation → (joined : Bool)
      → (joined ≡ true → ChangesSlot (SlotJoins wire) i s.slots slots) → (joined ≡ false → slots ≡ s.slots)
      → IsService (follows_by slots.hooks) (record s { slots = slots })
  service_joins_or_not i wire slots follows true joins same =
      let change = joins refl in
      moved s.store i change.now slots change.is (joins_at p s service within i wire follows change.was change.now change.at change.so)
  service_joins_or_not i wire slots follows false joins same = service_same slots (same refl)

  pub service_parts_or_not : (i : ℕ) (store : StoreState D) (slots : SlotsState) → store ≡ s.store → (parted : Bool)
      → (parted ≡ true → (farewell : List ℕ) × ChangesSlot (SlotParts (p i) farewell) i s.slots slots) → (parted ≡ false → slots ≡ s.slots)
      → IsService (follows_by slots.hooks) (record s { store = store; slots = slots })
  service_parts_or_not i store slots still parted parts same =
      let P : StoreState D → Type 0 = λ k. IsService (follows_by slots.hooks) (record s { store = k; slots = slots }) in
      subst P (sym still) (by_parted parted parts same)
    where
      by_parted : (b : Bool) → (b ≡ true → (farewell : List ℕ) × ChangesSlot (SlotParts (p i) farewell) i s.slots slots) → (b ≡ false → slots ≡ s.slots)
          → IsService (follows_by slots.hooks) (record s { slots = slots })
      by_parted true parts same =
          let change = (parts refl).1 in
          moved s.store i change.now slots change.is (parts_at p s service within i (parts refl).0 change.was change.now change.at change.so)
      by_parted false parts same = service_same slots (same refl)

-- ---- a commit, and a turn-over

module _ {D : Type 0} (old new : StoreState D) where
  keeps_by : (other : StoreState D) → new ≡ other → other.base ≡ old.base → other.history ≡ old.history → (new.base ≡ old.base) × (new.history ≡ old.history)
  keeps_by other same base history =
      (ap (λ (s : StoreState D). s.base) same ∙ base, ap (λ (s : StoreState D). s.history) same ∙ history)

  pub commit_keeps : (result : Result ℕ Refusal) → old.covered ≤ length old.history → OnOk result (length old.history ≤ old.covered → new ≡ old)
      → OnOk result (old.covered < length old.history → new ≡ committed old new.disk)
      → (old.failed ≡ true → (result ≡ Err failed_earlier) × (new ≡ old)) → OnErr result (old.failed ≡ false → new ≡ broken old new.disk)
      → (new.base ≡ old.base) × (new.history ≡ old.history)
  commit_keeps (Ok n) within all some failed broke = ⊎_elim
      (λ same. keeps_by old (all (omega (arith, same))) refl refl)
      (λ less. keeps_by (committed old new.disk) (some less) refl refl) (eq-or-lt_of_le within)
  commit_keeps (Err e) within all some failed broke = by_failed old.failed refl
    where
      by_failed : (b : Bool) → old.failed ≡ b → (new.base ≡ old.base) × (new.history ≡ old.history)
      by_failed true is = keeps_by old (failed is).1 refl refl
      by_failed false is = keeps_by (broken old new.disk) (broke is) refl refl

pub commit_breaks : {D : Type 0} (s : ServiceState D) (store : StoreState D) (result : Result ℕ Refusal)
    → IfErr result (λ e. s.store.failed ≡ false → e ≡ device_failed) → OnErr result (s.store.failed ≡ false → s.store.covered < length s.store.history)
    → OnErr result (s.store.failed ≡ false → store ≡ broken s.store store.disk)
    → IfErr result (λ e. s.store.failed ≡ false → (e ≡ device_failed) × IsBroken s (record s { store = store }))
commit_breaks s store (Ok n) told pending broke = tt
commit_breaks {D} s store (Err e) told pending broke = λ live.
    (told live, record { pending = pending live; is = ap (λ (t : StoreState D). record s { store = t }) (broke live) })

none_pending : (failed begun pending : Bool) → (if failed then Some failed_earlier else (if begun || pending then Some checkpoint_order else None)) ≡ None
    → pending ≡ false
none_pending true begun pending is = cc
none_pending false true pending is = cc
none_pending false false true is = cc
none_pending false false false is = refl

not_less : (m n : ℕ) → nat_lt m n ≡ false → n ≤ m
not_less m n is = grind (arith, nat_tests)

pub all_covered : {D : Type 0} (s : StoreState D) → refusal_of_turn_over s ≡ None → s.covered ≤ length s.history → s.covered ≡ length s.history
all_covered s none within =
    let least : length s.history ≤ s.covered = not_less s.covered (length s.history)
    (none_pending s.failed (is_some s.begun) (nat_lt s.covered (length s.history)) none) in
    omega arith

-- a store with an entry that is not covered does not turn over
pub turns_none : {D A : Type 0} (s new : StoreState D) (number : ℕ) (result : Result A Refusal) → s.covered ≤ length s.history
    → part_of number (drop s.covered s.history) ≢ [] → IfSome (refusal_of_turn_over s) (λ e. result ≡ Err e) → OnErr result (new ≡ s) → new ≡ s
turns_none s new number (Err e) within pending refused same = same
turns_none {D} {A} s new number (Ok a) within pending refused same = by_cause (refusal_of_turn_over s) refl refused
  where
    by_cause : (o : Option Refusal) → refusal_of_turn_over s ≡ o → IfSome o (λ e. ◌≡◌ {A = Result A Refusal} (Ok a) (Err e)) → new ≡ s
    by_cause None none refused = absurd (pending (last_part number s.covered s.history (all_covered s none within)))
    by_cause (Some e) is refused = cc

-- whether every entry is covered
pub covered_test : (past h : List Entry) (covered first entries : ℕ) → first ≡ covered → entries ≡ length h → covered ≤ length h
    → IsTrue (first == entries) ↔ (length (past ++ h) ≤ length past + covered)
covered_test past h covered first entries is all within =
    let longer = length-append past h in (
      (λ t. let same : first ≡ entries = grind (arith, nat_tests, t) in omega (arith, longer, same, is, all)),
      (λ le. let same : first ≡ entries = omega (arith, longer, le, is, all, within) in grind (arith, nat_tests, same)),
    )

-- before the first client
free_served : (p : ℕ → Conversation → Type 0) (covered n count : ℕ) → AllServed p [] covered n (replicate count free_slot)
free_served p covered n zero = tt
free_served p covered n (suc count) = (record { each = tt; part = refl; durable = tt }, free_served p covered (n + 1) count)

pub service_starts : {D : Type 0} (p : ℕ → Conversation → Type 0) (store : StoreState D) (origin : TableState) (past : List Entry) (slots : SlotsState)
    → store.history ≡ [] → IsSound store.base → origin ≡ store.base → past ≡ [] → AreFree slots.all
    → IsService p (record { store = store; origin = origin; past = past; slots = slots })
service_starts {D} p store origin past slots none sound is no_past free =
    let no_history : past ++ store.history ≡ [] = ap (λ (l : List Entry). l ++ store.history) no_past ∙ none in
    record {
      base = sym is ∙ ap (λ (l : List Entry). table_after origin l) (sym no_past);
      sound = subst (λ (t : TableState). IsSound t) (sym is) sound;
      legal = subst (IsLegal origin) (sym no_past) refl;
      served = subst (λ (l : List Entry). AllServed p l (length past + store.covered) 0 slots.all) (sym no_history)
          (subst (AllServed p [] (length past + store.covered) 0) (sym free) (free_served p (length past + store.covered) 0 (length slots.all)));
      others = subst (AllByRecursion (λ (e : Entry). e.seat < length slots.all)) (sym no_history) tt;
    }
