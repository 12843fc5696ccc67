-- The slots of two ports under one numbering: first those of hooks, then those of runners.
use Rattle.std.specs.Prelude.{◌≡◌, ℕ, ◌+◌, List, [], ◌∷◌, IfSome, length, replicate, slice_get, slice_set, nat_lt, option_map, Option, Some, None, Bool, true, false, ⊤}
use Rattle.act_sessions.specs.Rules.{Rules}
use Rattle.act_store.specs.declared.entry.Entry.{Entry}
use Rattle.client_loop.specs.Clients.{AreServed, ClientState, SlotState, clients_of, free_slot, status_of}
use Rattle.client_loop.specs.Conversation.{Conversation, Follows}
use Rattle.client_loop.specs.declared.status.ClientStatus.{ClientStatus}

-- the number of slots of hooks, and all slots
pub record SlotsState : Type 0 where
  pub hooks : ℕ
  pub all : List SlotState

-- no client has had these slots
abbrev pub AreFree : List SlotState → Type 0
AreFree slots = slots ≡ replicate (length slots) free_slot

abbrev pub FollowsAt : {F G : Type 0} → Rules F → Rules G → Bool → Conversation → Type 0
FollowsAt p q true c = Follows p c
FollowsAt p q false c = Follows q c

-- a conversation follows the protocol of the port whose slot it is at
abbrev pub by_port : {F G : Type 0} → ℕ → Rules F → Rules G → ℕ → Conversation → Type 0
by_port hooks p q index = FollowsAt p q (nat_lt index hooks)

abbrev pub client_in : Option SlotState → Option ClientState
client_in None = None
client_in (Some slot) = slot.client

-- what a caller sees of the client that has a slot
abbrev pub status_at : SlotsState → ℕ → Option ClientStatus
status_at slots index = option_map status_of (client_in (slice_get slots.all index))

-- If a client has the slot, this is so of it.
abbrev pub OfClient : (ClientState → Type 0) → SlotsState → ℕ → Type 0
OfClient P slots index = IfSome (client_in (slice_get slots.all index)) P

-- One slot changes so, and no other.
pub record ChangesSlot (changes : SlotState → SlotState → Type 0) (index : ℕ) (old new : SlotsState) : Type 0 where
  pub was : SlotState
  pub now : SlotState
  pub at : slice_get old.all index ≡ Some was
  pub so : changes was now
  pub is : new ≡ record old { all = slice_set old.all index now }

-- `AreServed` of each slot from a number on
abbrev pub AllServed : (ℕ → Conversation → Type 0) → List Entry → ℕ → ℕ → List SlotState → Type 0
AllServed follows history covered number [] = ⊤
AllServed follows history covered number (slot ∷ slots) =
    AreServed follows history covered number (clients_of slot) × AllServed follows history covered (number + 1) slots
