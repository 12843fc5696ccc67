-- What may happen to a service, in any order.
use Rattle.std.specs.Prelude.{◌≡◌, ◌⊎◌, ◌↔◌, ℕ, ◌<◌, ◌≤◌, List, [], ◌∷◌, ◌++◌, length, ⊤, true, None, Some}
use Rattle.definitions.specs.Disk.{EachSince}
use Rattle.act_store.specs.Plain.{broken, refusal_of_turn_over, turned_over}
use Rattle.act_store.specs.Steps.{Takes}
use Rattle.act_store.specs.StoreState.{RecoversToSome}
use Rattle.act_store.specs.declared.entry.Entry.{Entry}
use Rattle.act_store.specs.declared.step.Played.{Played}
use Rattle.act_store.specs.declared.step.Step.{Step}
use Rattle.act_store.specs.declared.step.Step.TheVariants as requested
use Rattle.client_loop.specs.Conversation.{Conversation}
use Rattle.client_loop.specs.Clients.{IsDrained, IsOver, IsParted, IsUnheard, OwesNothing, Wire}
use Rattle.client_loop.specs.Entering.{part_of}
use Rattle.client_loop.specs.Service.{IsStuck, ServiceDiscards, ServiceHears, ServiceJoins, ServiceLeaves, ServiceParts, ServiceSends, ServiceState}
use Rattle.client_loop.specs.Service.{covered_of, history_of, pending_of}
use Rattle.client_loop.specs.Slots.{OfClient}
use Rattle.wf_value.specs.declared.refusal.Refusal.{Refusal}
use Rattle.client_loop.specs.declared.event.Event.{Event}
use Rattle.client_loop.specs.declared.event.Event.TheVariants.{Begins, Commits, Discards, Finishes, GoesOn, Hears, Joins, Leaves, Parts, Sends, Slices, TurnsOver}

-- a step of the store that enters no command
abbrev pub EntersNone : Step → Type 0
EntersNone (requested.Apply command) = ⊥
EntersNone requested.Commit = ⊤
EntersNone requested.Begin = ⊤
EntersNone requested.Slice = ⊤
EntersNone requested.Finish = ⊤

-- Nothing is entered, and no client is heard or sent anything.
pub record IsQuiet {D : Type 0} (old new : ServiceState D) : Type 0 where
  pub origin : new.origin ≡ old.origin
  pub slots : new.slots ≡ old.slots
  pub history : history_of new ≡ history_of old
  pub covered : covered_of old ≤ covered_of new
  -- a store that has failed changes no more
  pub failed : old.store.failed ≡ true → new ≡ old

-- The device failed in a commit, of which an entry was left to cover.
pub record IsBroken {D : Type 0} (old new : ServiceState D) : Type 0 where
  pub pending : old.store.covered < length old.store.history
  pub is : new ≡ record old { store = broken old.store new.store.disk }

-- All entries are covered, or the device has failed.
abbrev pub Covers : {D : Type 0} → ServiceState D → Type 0
Covers s = (covered_of s ≡ length (history_of s)) ⊎ (s.store.failed ≡ true)

-- the service with a new history of its store
abbrev pub with_turn : {D : Type 0} → ServiceState D → ServiceState D
with_turn s = record s { store = turned_over s.store; past = history_of s }

-- The store's history restarts, unless the store has a cause to refuse that.
pub record Turns {D : Type 0} (old new : ServiceState D) : Type 0 where
  pub turned : refusal_of_turn_over old.store ≡ None → new ≡ with_turn old
  pub refused : (e : Refusal) → refusal_of_turn_over old.store ≡ Some e → new ≡ old

-- The store takes this step.
abbrev pub TakesStep : {D : Type 0} → Step → ServiceState D → ServiceState D → Type 0
TakesStep step old new = (answer : Played) × Takes old.store step answer new.store

-- One event; or it was not possible, and nothing changed. What comes in a piece, how much a stream takes and which stream joins is left open.
-- Only a client may join that does not, where a slot is free: there may be no further stream.
abbrev pub Happens : {D : Type 0} → (ℕ → Conversation → Type 0) → ServiceState D → Event → ServiceState D → Type 0
Happens follows old (Joins index) new = (new ≡ old) ⊎ ((wire : Wire) × ServiceJoins index wire old new)
Happens follows old (Hears index) new =
    ((new ≡ old) × OfClient IsUnheard old.slots index) ⊎ ((piece : List ℕ) × ServiceHears follows index piece old new)
Happens follows old (GoesOn index) new = ((new ≡ old) × OfClient IsOver old.slots index) ⊎ ServiceHears follows index [] old new
Happens follows old (Sends index) new =
    ((new ≡ old) × (part_of index (pending_of old) ≡ [] → OfClient IsParted old.slots index)) ⊎ ((n : ℕ) × ServiceSends follows index n old new)
Happens follows old (Discards index) new = ((new ≡ old) × OfClient IsDrained old.slots index) ⊎ ServiceDiscards index old new
Happens follows old (Leaves index) new = ((new ≡ old) × (length old.slots.all ≤ index)) ⊎ ServiceLeaves index old new
Happens follows old (Parts index) new =
    ((new ≡ old) × (IsStuck index old → OfClient OwesNothing old.slots index)) ⊎ ((farewell : List ℕ) × ServiceParts follows index farewell old new)
Happens follows old Commits new = IsQuiet old new × Covers new
Happens follows old TurnsOver new = IsQuiet old new × Turns old new
Happens follows old Begins new = IsQuiet old new × TakesStep requested.Begin old new
Happens follows old Slices new = IsQuiet old new × TakesStep requested.Slice old new
Happens follows old Finishes new = IsQuiet old new × TakesStep requested.Finish old new

-- Entries are appended to the history, and covered ones stay covered.
pub record Grows {D : Type 0} (old new : ServiceState D) : Type 0 where
  pub origin : new.origin ≡ old.origin
  pub more : List Entry
  pub history : history_of new ≡ history_of old ++ more
  pub covered : covered_of old ≤ covered_of new
  pub hooks : new.slots.hooks ≡ old.slots.hooks
  pub slots : length new.slots.all ≡ length old.slots.all

-- At every moment of an event the disk recovers to some first entries, with all those that were covered when it began.
pub record Survives {D : Type 0} (honest : D → Type 0) (moment : D → ℕ) (images_since : D → ℕ → List ℕ → Type 0) (old new : ServiceState D) : Type 0 where
  pub any_moment : honest old.store.disk → EachSince moment images_since old.store.disk new.store.disk
      (RecoversToSome new.origin (history_of new) (covered_of old))
  pub stays_honest : honest new.store.disk ↔ honest old.store.disk
  pub grows : Grows old new

-- all events in order, with `during` true of each
abbrev pub Plays : {D : Type 0} → (ServiceState D → ServiceState D → Type 0) → (ℕ → Conversation → Type 0) → ServiceState D → List Event → ServiceState D → Type 0
Plays during follows old [] new = new ≡ old
Plays {D} during follows old (event ∷ events) new =
    (mid : ServiceState D) × Happens follows old event mid × during old mid × Plays during follows mid events new
