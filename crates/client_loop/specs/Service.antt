-- A service of many clients over one store, and what every service guarantees.
use Rattle.std.specs.Prelude.{◌≡◌, ◌≢◌, ℕ, ◌+◌, ◌≤◌, ◌<◌, List, [], ◌++◌, length, drop, true}
use Rattle.std.specs.List.{AllByRecursion}
use Rattle.table_model.specs.Sound.{IsSound}
use Rattle.table_model.specs.TableState.{TableState}
use Rattle.act_store.specs.Entries.{IsLegal, table_after}
use Rattle.act_store.specs.GroupsOfHistory.{KeepsGroups}
use Rattle.act_store.specs.Reopened.{Life}
use Rattle.act_store.specs.StoreState.{RecoversToSome, StoreState}
use Rattle.act_store.specs.declared.entry.Entry.{Entry}
use Rattle.client_loop.specs.Clients.{SlotDiscards, SlotHears, SlotJoins, SlotLeaves, SlotParts, SlotSends, SlotState, Wire}
use Rattle.client_loop.specs.Conversation.{Conversation}
use Rattle.client_loop.specs.Entering.{part_of}
use Rattle.client_loop.specs.Slots.{AllServed, ChangesSlot, SlotsState}

pub record ServiceState (D : Type 0) : Type 0 where
  pub store : StoreState D
  -- the table at the start of the service, and the entries of the store's earlier histories
  pub origin : TableState
  pub past : List Entry
  pub slots : SlotsState

-- the history of the service, and how many of its first entries are covered
abbrev pub history_of : {D : Type 0} → ServiceState D → List Entry
history_of s = s.past ++ s.store.history

abbrev pub covered_of : {D : Type 0} → ServiceState D → ℕ
covered_of s = length s.past + s.store.covered

-- the entries that are not covered
abbrev pub pending_of : {D : Type 0} → ServiceState D → List Entry
pending_of s = drop (covered_of s) (history_of s)

-- the whole service, as one life of a store
abbrev pub life_of : {D : Type 0} → ServiceState D → Life
life_of s = record { base = s.origin; history = history_of s; covered = covered_of s }

-- a service over a store with an empty history, before its first client
abbrev pub new_service : {D : Type 0} → StoreState D → SlotsState → ServiceState D
new_service store slots = record { store = store; origin = store.base; past = []; slots = slots }

-- The history is one of one thread, from the service's first table. Its entries are the commands of the clients and no others.
pub record IsService {D : Type 0} (follows : ℕ → Conversation → Type 0) (s : ServiceState D) : Type 0 where
  pub base : s.store.base ≡ table_after s.origin s.past
  pub sound : IsSound s.origin
  pub legal : IsLegal s.origin s.past
  pub served : AllServed follows (history_of s) (covered_of s) 0 s.slots.all
  pub others : AllByRecursion (λ (e : Entry). e.seat < length s.slots.all) (history_of s)

-- What every service promises. The history is that of one thread, and keeps the law of concurrency groups; its entries are the commands of
-- the clients and no others; what a client was sent rests on covered entries; and each image of the disk recovers to some first entries,
-- with all covered ones.
pub record IsPromised {D : Type 0} (follows : ℕ → Conversation → Type 0) (honest : D → Type 0) (images : D → List ℕ → Type 0) (s : ServiceState D) : Type 0 where
  pub legal : IsLegal s.origin (history_of s)
  pub groups : KeepsGroups s.origin (history_of s)
  pub within : covered_of s ≤ length (history_of s)
  pub served : AllServed follows (history_of s) (covered_of s) 0 s.slots.all
  pub others : AllByRecursion (λ (e : Entry). e.seat < length s.slots.all) (history_of s)
  pub recovers : honest s.store.disk → (image : List ℕ) → images s.store.disk image → RecoversToSome s.origin (history_of s) (covered_of s) image

-- The device has failed, and some entry under this number is not covered.
pub record IsStuck {D : Type 0} (index : ℕ) (s : ServiceState D) : Type 0 where
  pub failed : s.store.failed ≡ true
  pub pending : part_of index (pending_of s) ≢ []

-- ---- what happens to the client of a slot

pub record ServiceHears {D : Type 0} (follows : ℕ → Conversation → Type 0) (index : ℕ) (piece : List ℕ) (old new : ServiceState D) : Type 0 where
  pub hears : ChangesSlot (SlotHears (follows index) index piece old.store new.store) index old.slots new.slots
  pub is : new ≡ record old { store = new.store; slots = new.slots }

-- Bytes were sent, while every entry under the number was covered.
pub record ServiceSends {D : Type 0} (follows : ℕ → Conversation → Type 0) (index n : ℕ) (old new : ServiceState D) : Type 0 where
  pub covered : part_of index (pending_of old) ≡ []
  pub sends : ChangesSlot (SlotSends (follows index) n) index old.slots new.slots
  pub is : new ≡ record old { slots = new.slots }

-- The service parted with a client: the device has failed, and an entry under its number is not covered. These bytes were sent in place of
-- its answers.
pub record ServiceParts {D : Type 0} (follows : ℕ → Conversation → Type 0) (index : ℕ) (farewell : List ℕ) (old new : ServiceState D) : Type 0 where
  pub stuck : IsStuck index old
  pub parts : ChangesSlot (SlotParts (follows index) farewell) index old.slots new.slots
  pub is : new ≡ record old { slots = new.slots }

-- only slots change, and one of them so
pub record ServiceChanges {D : Type 0} (changes : SlotState → SlotState → Type 0) (index : ℕ) (old new : ServiceState D) : Type 0 where
  pub changed : ChangesSlot changes index old.slots new.slots
  pub is : new ≡ record old { slots = new.slots }

abbrev pub ServiceDiscards : {D : Type 0} → ℕ → ServiceState D → ServiceState D → Type 0
ServiceDiscards index old new = ServiceChanges SlotDiscards index old new

abbrev pub ServiceJoins : {D : Type 0} → ℕ → Wire → ServiceState D → ServiceState D → Type 0
ServiceJoins index wire old new = ServiceChanges (SlotJoins wire) index old new

abbrev pub ServiceLeaves : {D : Type 0} → ℕ → ServiceState D → ServiceState D → Type 0
ServiceLeaves index old new = ServiceChanges SlotLeaves index old new
