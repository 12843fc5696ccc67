-- Events in a row.
use Rattle.std.proofs.Common.{◌≡◌, ◌↔◌, ⊎_elim, ℕ, ◌+◌, ◌<◌, ◌≤◌, get_or, true, false, Bool, List, [], ◌∷◌, ◌++◌, length, take, refl, sym, ap, subst, ◌∙◌, inl, inr, append-nil, append_assoc, length-append, arith, Ok, Err}
use Rattle.std.specs.Prelude.{drop, IfNone, IfSome, Option, Some, None, if◌then◌else◌}
use Rattle.std.proofs.lemmas.List.{length-set, take-append-le, take_more}
use Rattle.table_model.specs.TableState.{TableState}
use Rattle.definitions.specs.Disk.{EachSince}
use Rattle.act_disk.proofs.Moments.{started, weakened, joined}
use Rattle.act_sessions.specs.Exchange.{Exchange}
use Rattle.act_store.specs.Entries.{IsLegal, table_after}
use Rattle.act_store.specs.Images.{RecoversTo}
use Rattle.act_store.specs.Plain.{turned_over}
use Rattle.act_store.specs.StoreState.{RecoversToEither, RecoversToSome, StoreState}
use Rattle.act_store.specs.declared.entry.Entry.{Entry}
use Rattle.client_loop.specs.Clients.{SlotDiscards, SlotHears, SlotJoins, SlotParts, SlotSends, SlotState, Wire}
use Rattle.client_loop.specs.Conversation.{Conversation}
use Rattle.client_loop.specs.Entering.{Enters, entries_of, part_of}
use Rattle.client_loop.specs.Events.{Grows, Happens, IsQuiet, Plays, Survives}
use Rattle.client_loop.specs.Service.{IsPromised, IsService, IsStuck, ServiceHears, ServiceState, covered_of, history_of}
use Rattle.client_loop.specs.Slots.{ChangesSlot, SlotsState}
use Rattle.client_loop.specs.declared.event.Event.{Event}
use Rattle.client_loop.specs.declared.event.Event.TheVariants as event
use Rattle.client_loop.proofs.Machine.{service_promises, some_of_either}
use Rattle.client_loop.proofs.Served.{extends}

same_hooks : (R : SlotState → SlotState → Type 0) (i : ℕ) (old new : SlotsState) → ChangesSlot R i old new → new.hooks ≡ old.hooks
same_hooks R i old new change = ap (λ (k : SlotsState). k.hooks) change.is

same_length : (R : SlotState → SlotState → Type 0) (i : ℕ) (old new : SlotsState) → ChangesSlot R i old new → length new.all ≡ length old.all
same_length R i old new change = ap (λ (k : SlotsState). length k.all) change.is ∙ length-set old.all i change.now

not_refused : {A : Type 0} (x : A) (o : Option A) (failed : Bool) → failed ≡ true → (if failed then Some x else o) ≡ None → ⊥
not_refused x o true failed none = cc
not_refused x o false failed none = cc

module _ {D : Type 0} where
  grows_none : (old new : ServiceState D) → new.origin ≡ old.origin → new.slots.hooks ≡ old.slots.hooks → length new.slots.all ≡ length old.slots.all
      → history_of new ≡ history_of old → covered_of old ≤ covered_of new → Grows old new
  grows_none old new origin hooks slots history covered = record {
    origin = origin;
    more = [];
    history = history ∙ sym (append-nil (history_of old));
    covered = covered;
    hooks = hooks;
    slots = slots;
  }

  pub same_grows : (old new : ServiceState D) → new ≡ old → Grows old new
  same_grows old new same =
      subst (λ (s : ServiceState D). Grows old s) (sym same) (grows_none old old refl refl refl refl (omega arith))

  pub quiet_grows : (old new : ServiceState D) → IsQuiet old new → Grows old new
  quiet_grows old new quiet = grows_none old new quiet.origin (ap (λ (k : SlotsState). k.hooks) quiet.slots)
      (ap (λ (k : SlotsState). length k.all) quiet.slots) quiet.history quiet.covered

  pub still_quiet : (old new : ServiceState D) → new ≡ old → IsQuiet old new
  still_quiet old new same = subst (λ (s : ServiceState D). IsQuiet old s) (sym same)
      (record { origin = refl; slots = refl; history = refl; covered = omega arith; failed = λ failed. refl })

  pub slot_grows : (old new : ServiceState D) (R : SlotState → SlotState → Type 0) (i : ℕ) → ChangesSlot R i old.slots new.slots
      → new ≡ record old { slots = new.slots } → Grows old new
  slot_grows old new R i change is =
      subst (λ (s : ServiceState D). Grows old s) (sym is)
      (grows_none old (record old { slots = new.slots }) refl (same_hooks R i old.slots new.slots change)
      (same_length R i old.slots new.slots change) refl (omega arith))

  -- what hearing a client does to the store
  pub record Adds (old new : StoreState D) : Type 0 where
    pub more : List Entry
    pub history : new.history ≡ old.history ++ more
    pub base : new.base ≡ old.base
    pub covered : new.covered ≡ old.covered
    pub disk : new.disk ≡ old.disk
    pub failed : new.failed ≡ old.failed
    -- a store that has failed enters nothing
    pub none : old.failed ≡ true → more ≡ []

  failed_enters : (number : ℕ) (old new : StoreState D) (xs : List Exchange) → Enters number old xs new → old.failed ≡ true → entries_of number xs ≡ []
  failed_enters number old new [] enters failed = refl
  failed_enters number old new ((c, Ok reply) ∷ xs) enters failed = absurd (not_refused _ _ old.failed failed enters.1.2)
  failed_enters number old new ((c, Err e) ∷ xs) enters failed =
      failed_enters number enters.0 new xs enters.2 (ap (λ (s : StoreState D). s.failed) enters.1.0 ∙ failed)

  pub hears_adds : (follows : Conversation → Type 0) (i : ℕ) (piece : List ℕ) (old : StoreState D) (was now : SlotState) (new : StoreState D)
      → SlotHears follows i piece old new was now → Adds old new
  hears_adds follows i piece old was now new (c, d, here, is, heard) =
      let xs = heard.hears.exchanges in
      let grown = extends i old new xs heard.hears.enters in
      record {
        more = entries_of i xs;
        history = grown.history;
        base = grown.base;
        covered = grown.covered;
        disk = grown.disk;
        failed = grown.failed;
        none = failed_enters i old new xs heard.hears.enters;
      }

  pub hears_grows : (p : ℕ → Conversation → Type 0) (i : ℕ) (piece : List ℕ) (old new : ServiceState D) → ServiceHears p i piece old new → Grows old new
  hears_grows p i piece old new h =
      let change = h.hears in
      let adds = hears_adds (p i) i piece old.store change.was change.now new.store change.so in
      let R : SlotState → SlotState → Type 0 = SlotHears (p i) i piece old.store new.store in
      subst (λ (s : ServiceState D). Grows old s) (sym h.is) (record {
        origin = refl;
        more = adds.more;
        history = ap (λ (l : List Entry). old.past ++ l) adds.history ∙ sym (append_assoc old.past old.store.history adds.more);
        covered = let e = adds.covered in omega arith;
        hooks = same_hooks R i old.slots new.slots change;
        slots = same_length R i old.slots new.slots change;
      })

  pub grows_on : (old mid new : ServiceState D) → Grows old mid → Grows mid new → Grows old new
  grows_on old mid new first second = record {
    origin = second.origin ∙ first.origin;
    more = first.more ++ second.more;
    history =
        second.history ∙ ap (λ (l : List Entry). l ++ second.more) first.history ∙ append_assoc (history_of old) first.more second.more;
    covered = omega (arith, first.covered, second.covered);
    hooks = second.hooks ∙ first.hooks;
    slots = second.slots ∙ first.slots;
  }

  -- an image recovers to the same entries after more were appended
  pub some_grows : (old new : ServiceState D) → Grows old new → (n : ℕ) (c : List ℕ) → RecoversToSome old.origin (history_of old) n c
      → RecoversToSome new.origin (history_of new) n c
  some_grows old new grows n c some =
      let same : take some.count (history_of old) ≡ take some.count (history_of new) =
      sym (ap (λ (l : List Entry). take some.count l) grows.history ∙ take-append-le some.count (history_of old) grows.more some.within) in
      let longer : length (history_of old) ≤ length (history_of new) =
      let e = ap (λ (l : List Entry). length l) grows.history in let f = length-append (history_of old) grows.more in omega arith in
      record {
        count = some.count;
        from = some.from;
        within = omega (arith, some.within, longer);
        recovers = subst (λ (t : TableState). RecoversTo t c)
            (ap (λ (l : List Entry). table_after old.origin l) same
            ∙ ap (λ (t : TableState). table_after t (take some.count (history_of new))) (sym grows.origin)) some.recovers;
      }

  module _ (honest : D → Type 0) (moment : D → ℕ) (images_since : D → ℕ → List ℕ → Type 0) where
    -- no device call was made
    pub still_survives : (images : D → List ℕ → Type 0) → ((disk : D) → honest disk → (c : List ℕ) → images_since disk (moment disk) c → images disk c)
        → (old new : ServiceState D) → Grows old new → new.store.disk ≡ old.store.disk
        → (honest old.store.disk → (c : List ℕ) → images old.store.disk c → RecoversToSome old.origin (history_of old) (covered_of old) c)
        → Survives honest moment images_since old new
    still_survives images only old new grows same promise = record {
      any_moment = λ is_honest.
          subst (λ (d : D). EachSince moment images_since old.store.disk d (RecoversToSome new.origin (history_of new) (covered_of old))) (sym same)
          (started moment images_since old.store.disk (RecoversToSome new.origin (history_of new) (covered_of old))
          (λ c left. some_grows old new grows (covered_of old) c (promise is_honest c (only old.store.disk is_honest c left))));
      stays_honest = (λ h. subst honest same h, λ h. subst honest (sym same) h);
      grows = grows;
    }

    pub survives_on : (old mid new : ServiceState D) → Survives honest moment images_since old mid → Survives honest moment images_since mid new
        → Survives honest moment images_since old new
    survives_on old mid new first second = record {
      any_moment = λ is_honest.
          joined moment images_since old.store.disk mid.store.disk new.store.disk (RecoversToSome new.origin (history_of new) (covered_of old))
          (RecoversToSome new.origin (history_of new) (covered_of mid))
          (weakened moment images_since old.store.disk mid.store.disk (RecoversToSome mid.origin (history_of mid) (covered_of old))
          (RecoversToSome new.origin (history_of new) (covered_of old)) (first.any_moment is_honest)
          (λ c. some_grows mid new second.grows (covered_of old) c))
          (second.any_moment (first.stays_honest.1 is_honest))
          (λ c some. record {
            count = some.count;
            from = omega (arith, some.from, first.grows.covered);
            within = some.within;
            recovers = some.recovers;
          });
      stays_honest = (λ h. first.stays_honest.0 (second.stays_honest.0 h), λ h. second.stays_honest.1 (first.stays_honest.1 h));
      grows = grows_on old mid new first.grows second.grows;
    }

  pub plays_more : (during : ServiceState D → ServiceState D → Type 0) (p : ℕ → Conversation → Type 0) (old mid new : ServiceState D) (events : List Event) (next : Event)
      → Plays during p old events mid → Happens p mid next new → during mid new → Plays during p old (events ++ next ∷ []) new
  plays_more during p old mid new [] next plays happens so =
      let same : mid ≡ old = plays in
      (new, subst (λ (s : ServiceState D). Happens p s next new) same happens, subst (λ (s : ServiceState D). during s new) same so, refl)
  plays_more during p old mid new (e ∷ es) next plays happens so =
      (plays.0, plays.1, plays.2, plays_more during p plays.0 mid new es next plays.3 happens so)

  pub plays_next : (during : ServiceState D → ServiceState D → Type 0) (p : ℕ → Conversation → Type 0) (old mid new : ServiceState D) (events : List Event)
      (i : ℕ) (next : Event) → i < length events → Plays during p old (take i events) mid → Happens p mid (get_or events i next) new → during mid new
      → Plays during p old (take (i + 1) events) new
  plays_next during p old mid new events i next less plays happens so =
      subst (λ (es : List Event). Plays during p old es new) (sym (take_more events i next less))
      (plays_more during p old mid new (take i events) (get_or events i next) plays happens so)

-- ---- each call

module _ {D : Type 0} (p : ℕ → Conversation → Type 0) (honest : D → Type 0) (moment : D → ℕ) (images_since : D → ℕ → List ℕ → Type 0) (images : D → List ℕ → Type 0)
    (only : (disk : D) → honest disk → (c : List ℕ) → images_since disk (moment disk) c → images disk c)
    (s : ServiceState D) (service : IsService p s) (within : s.store.covered ≤ length s.store.history) (legal : IsLegal s.store.base s.store.history)
    (promise : honest s.store.disk → (c : List ℕ) → images s.store.disk c → RecoversToEither s.store c) where
  recovers : honest s.store.disk → (c : List ℕ) → images s.store.disk c → RecoversToSome s.origin (history_of s) (covered_of s) c
  recovers = (service_promises p s service within honest images legal promise).recovers

  pub stays : (new : ServiceState D) → new ≡ s → Survives honest moment images_since s new
  stays new same = still_survives honest moment images_since images only s new (same_grows s new same)
      (ap (λ (k : ServiceState D). k.store.disk) same) recovers

  pub changes : (R : SlotState → SlotState → Type 0) (i : ℕ) (slots : SlotsState) → ChangesSlot R i s.slots slots
      → Survives honest moment images_since s (record s { slots = slots })
  changes R i slots change = still_survives honest moment images_since images only s (record s { slots = slots })
      (slot_grows s (record s { slots = slots }) R i change refl) refl recovers

  pub changes_or_not : (R : SlotState → SlotState → Type 0) (i : ℕ) (slots : SlotsState) (changed : Bool) → (changed ≡ true → ChangesSlot R i s.slots slots)
      → (changed ≡ false → slots ≡ s.slots) → Survives honest moment images_since s (record s { slots = slots })
  changes_or_not R i slots true change same = changes R i slots (change refl)
  changes_or_not R i slots false change same = stays (record s { slots = slots }) (ap (λ (k : SlotsState). record s { slots = k }) (same refl))

  pub changes_some : (R : ℕ → SlotState → SlotState → Type 0) (i : ℕ) (slots : SlotsState) (result : Option ℕ)
      → IfSome result (λ n. ChangesSlot (R n) i s.slots slots) → IfNone result (slots ≡ s.slots)
      → Survives honest moment images_since s (record s { slots = slots })
  changes_some R i slots (Some n) change same = changes (R n) i slots change
  changes_some R i slots None change same = stays (record s { slots = slots }) (ap (λ (k : SlotsState). record s { slots = k }) same)

  pub parts_or_not : (i : ℕ) (store : StoreState D) (slots : SlotsState) → store ≡ s.store → (parted : Bool)
      → (parted ≡ true → (farewell : List ℕ) × ChangesSlot (SlotParts (p i) farewell) i s.slots slots) → (parted ≡ false → slots ≡ s.slots)
      → Survives honest moment images_since s (record s { store = store; slots = slots })
  parts_or_not i store slots still parted parts same =
      let P : StoreState D → Type 0 = λ k. Survives honest moment images_since s (record s { store = k; slots = slots }) in
      subst P (sym still) (by_parted parted parts same)
    where
      by_parted : (b : Bool) → (b ≡ true → (farewell : List ℕ) × ChangesSlot (SlotParts (p i) farewell) i s.slots slots) → (b ≡ false → slots ≡ s.slots)
          → Survives honest moment images_since s (record s { slots = slots })
      by_parted true parts same = changes (SlotParts (p i) (parts refl).0) i slots (parts refl).1
      by_parted false parts same = stays (record s { slots = slots }) (ap (λ (k : SlotsState). record s { slots = k }) (same refl))

  hears : (i : ℕ) (piece : List ℕ) (store : StoreState D) (slots : SlotsState) → ChangesSlot (SlotHears (p i) i piece s.store store) i s.slots slots
      → Survives honest moment images_since s (record s { store = store; slots = slots })
  hears i piece store slots change =
      let new : ServiceState D = record s { store = store; slots = slots } in
      still_survives honest moment images_since images only s new (hears_grows p i piece s new (record { hears = change; is = refl }))
      (hears_adds (p i) i piece s.store change.was change.now store change.so).disk recovers

  stays_both : (store : StoreState D) (slots : SlotsState) → slots ≡ s.slots → store ≡ s.store
      → Survives honest moment images_since s (record s { store = store; slots = slots })
  stays_both store slots same still = stays (record s { store = store; slots = slots })
      (ap (λ (k : StoreState D). record s { store = k; slots = slots }) still ∙ ap (λ (k : SlotsState). record s { slots = k }) same)

  pub hears_some : (i : ℕ) (store : StoreState D) (slots : SlotsState) (buffer : ℕ → List ℕ) (result : Option ℕ)
      → IfSome result (λ n. ChangesSlot (SlotHears (p i) i (buffer n) s.store store) i s.slots slots)
      → IfNone result ((slots ≡ s.slots) × (store ≡ s.store)) → Survives honest moment images_since s (record s { store = store; slots = slots })
  hears_some i store slots buffer (Some n) change same = hears i (buffer n) store slots change
  hears_some i store slots buffer None change same = stays_both store slots same.0 same.1

  pub hears_or_not : (i : ℕ) (store : StoreState D) (slots : SlotsState) (piece : List ℕ) (heard : Bool)
      → (heard ≡ true → ChangesSlot (SlotHears (p i) i piece s.store store) i s.slots slots)
      → (heard ≡ false → (slots ≡ s.slots) × (store ≡ s.store)) → Survives honest moment images_since s (record s { store = store; slots = slots })
  hears_or_not i store slots piece true change same = hears i piece store slots (change refl)
  hears_or_not i store slots piece false change same = stays_both store slots (same refl).0 (same refl).1

  pub turns : (past : List Entry) → past ≡ s.past ++ s.store.history → s.store.covered ≡ length s.store.history → (s.store.failed ≡ true → ⊥)
      → IsQuiet s (record s { store = turned_over s.store; past = past })
  turns past is all live = record {
    origin = refl;
    slots = refl;
    history = append-nil past ∙ is;
    failed = λ failed. absurd (live failed);
    covered = let e : length past ≡ length s.past + length s.store.history = ap (λ (l : List Entry). length l) is ∙ length-append s.past s.store.history in omega arith;
  }

  pub turns_survive : (past : List Entry) → past ≡ s.past ++ s.store.history → s.store.covered ≡ length s.store.history → (s.store.failed ≡ true → ⊥)
      → Survives honest moment images_since s (record s { store = turned_over s.store; past = past })
  turns_survive past is all live = still_survives honest moment images_since images only s (record s { store = turned_over s.store; past = past })
      (quiet_grows s (record s { store = turned_over s.store; past = past }) (turns past is all live)) refl recovers

  pub commits : (store : StoreState D) → store.base ≡ s.store.base → store.history ≡ s.store.history → s.store.covered ≤ store.covered → (s.store.failed ≡ true → store ≡ s.store)
      → IsQuiet s (record s { store = store })
  commits store base history grows same = record {
    failed = λ failed. ap (λ (k : StoreState D). record s { store = k }) (same failed);
    origin = refl;
    slots = refl;
    history = ap (λ (l : List Entry). s.past ++ l) history;
    covered = omega (arith, grows);
  }

  pub commits_survive : (store : StoreState D) → store.base ≡ s.store.base → store.history ≡ s.store.history → s.store.covered ≤ store.covered
      → (s.store.failed ≡ true → store ≡ s.store)
      → (honest s.store.disk → EachSince moment images_since s.store.disk store.disk (RecoversToEither s.store)) → honest store.disk ↔ honest s.store.disk
      → Survives honest moment images_since s (record s { store = store })
  commits_survive store base history grows same since stays =
      let new : ServiceState D = record s { store = store } in
      let more = quiet_grows s new (commits store base history grows same) in
      record {
        any_moment = λ is_honest.
            weakened moment images_since s.store.disk store.disk (RecoversToEither s.store) (RecoversToSome new.origin (history_of new) (covered_of s))
            (since is_honest) (λ c either. some_grows s new more (covered_of s) c (some_of_either s service.base within c either));
        stays_honest = stays;
        grows = more;
      }

pub stays_promised : {D : Type 0} (p : ℕ → Conversation → Type 0) (honest : D → Type 0) (moment : D → ℕ) (images_since : D → ℕ → List ℕ → Type 0) (images : D → List ℕ → Type 0)
    → ((disk : D) → honest disk → (c : List ℕ) → images_since disk (moment disk) c → images disk c) → (s new : ServiceState D) → IsPromised p honest images s
    → new ≡ s → Survives honest moment images_since s new
stays_promised {D} p honest moment images_since images only s new promised same =
    still_survives honest moment images_since images only s new (same_grows s new same) (ap (λ (k : ServiceState D). k.store.disk) same) promised.recovers

module _ {D : Type 0} (p : ℕ → Conversation → Type 0) (honest : D → Type 0) (moment : D → ℕ) (images_since : D → ℕ → List ℕ → Type 0) where
  pub plays_survive : (old new : ServiceState D) (events : List Event) → Plays (Survives honest moment images_since) p old events new
      → Survives honest moment images_since new new → Survives honest moment images_since old new
  plays_survive old new [] same here = subst (λ (o : ServiceState D). Survives honest moment images_since o new) same here
  plays_survive old new (e ∷ es) plays here =
      survives_on honest moment images_since old plays.0 new plays.2 (plays_survive plays.0 new es plays.3 here)

-- ---- after a fault

module _ {D : Type 0} (p : ℕ → Conversation → Type 0) where
  -- the store has failed, and enters nothing
  pub record Silent (old new : ServiceState D) : Type 0 where
    pub failed : new.store.failed ≡ true
    pub history : history_of new ≡ history_of old
    pub covered : covered_of new ≡ covered_of old

  silent_same : (old new : ServiceState D) → old.store.failed ≡ true → new ≡ old → Silent old new
  silent_same old new failed same =
      subst (λ (s : ServiceState D). Silent old s) (sym same) (record { failed = failed; history = refl; covered = refl })

  silent_slots : (old new : ServiceState D) → old.store.failed ≡ true → new ≡ record old { slots = new.slots } → Silent old new
  silent_slots old new failed is =
      subst (λ (s : ServiceState D). Silent old s) (sym is) (record { failed = failed; history = refl; covered = refl })

  silent_hears : (i : ℕ) (piece : List ℕ) (old new : ServiceState D) → old.store.failed ≡ true → ServiceHears p i piece old new → Silent old new
  silent_hears i piece old new failed h =
      let change = h.hears in
      let adds = hears_adds (p i) i piece old.store change.was change.now new.store change.so in
      subst (λ (s : ServiceState D). Silent old s) (sym h.is) (record {
        failed = adds.failed ∙ failed;
        history = ap (λ (l : List Entry). old.past ++ l) (adds.history ∙ ap (λ (l : List Entry). old.store.history ++ l) (adds.none failed)
            ∙ append-nil old.store.history);
        covered = ap (λ (k : ℕ). length old.past + k) adds.covered;
      })

  pub silent_on : (old new : ServiceState D) (next : Event) → old.store.failed ≡ true → Happens p old next new → Silent old new
  silent_on old new (event.Joins i) failed (inl same) = silent_same old new failed same
  silent_on old new (event.Joins i) failed (inr joins) = silent_slots old new failed joins.1.is
  silent_on old new (event.Hears i) failed (inl same) = silent_same old new failed same.0
  silent_on old new (event.Hears i) failed (inr hears) = silent_hears i hears.0 old new failed hears.1
  silent_on old new (event.GoesOn i) failed (inl same) = silent_same old new failed same.0
  silent_on old new (event.GoesOn i) failed (inr hears) = silent_hears i [] old new failed hears
  silent_on old new (event.Sends i) failed (inl same) = silent_same old new failed same.0
  silent_on old new (event.Sends i) failed (inr sends) = silent_slots old new failed sends.1.is
  silent_on old new (event.Discards i) failed (inl same) = silent_same old new failed same.0
  silent_on old new (event.Discards i) failed (inr discards) = silent_slots old new failed discards.is
  silent_on old new (event.Leaves i) failed (inl same) = silent_same old new failed same.0
  silent_on old new (event.Leaves i) failed (inr leaves) = silent_slots old new failed leaves.is
  silent_on old new (event.Parts i) failed (inl same) = silent_same old new failed same.0
  silent_on old new (event.Parts i) failed (inr parts) = silent_slots old new failed parts.1.is
  silent_on old new event.Commits failed quiet = silent_same old new failed (quiet.0.failed failed)
  silent_on old new event.Begins failed quiet = silent_same old new failed (quiet.0.failed failed)
  silent_on old new event.Slices failed quiet = silent_same old new failed (quiet.0.failed failed)
  silent_on old new event.Finishes failed quiet = silent_same old new failed (quiet.0.failed failed)
  silent_on old new event.TurnsOver failed quiet = silent_same old new failed (quiet.0.failed failed)

  pub stuck_on : (index : ℕ) (old new : ServiceState D) (next : Event) → IsStuck index old → Happens p old next new → IsStuck index new
  stuck_on index old new next stuck happens =
      let silent = silent_on old new next stuck.failed happens in
      record {
        failed = silent.failed;
        pending = λ none. stuck.pending
            (ap (λ (l : List Entry). part_of index (drop (covered_of old) l)) (sym silent.history)
            ∙ ap (λ (k : ℕ). part_of index (drop k (history_of new))) (sym silent.covered) ∙ none);
      }

  pub stuck_silent : (index : ℕ) (old new : ServiceState D) → IsStuck index old → Happens p old (event.Sends index) new → new ≡ old
  stuck_silent index old new stuck (inl same) = same.0
  stuck_silent index old new stuck (inr sends) = absurd (stuck.pending sends.1.covered)
