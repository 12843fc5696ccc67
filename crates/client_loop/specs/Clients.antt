-- The clients of a slot, one after another, and what holds of them beside a history.
use Rattle.std.specs.Prelude.{◌≡◌, ◌≢◌, ◌⊎◌, ℕ, ◌≤◌, List, [], ◌∷◌, ◌++◌, length, take, drop, flat_map, Option, Some, None, ⊤, Bool, true, false, not, ◌&&◌, ◌==◌}
use Rattle.std.specs.Io.KnownBytes.{Appends, Consumes}
use Rattle.act_sessions.specs.Exchange.{Exchange}
use Rattle.act_store.specs.StoreState.{StoreState}
use Rattle.act_store.specs.declared.entry.Entry.{Entry}
use Rattle.client_loop.specs.Conversation.{Conversation, no_conversation}
use Rattle.client_loop.specs.Entering.{entries_of, part_of}
use Rattle.client_loop.specs.Hearing.{Hears}
use Rattle.client_loop.specs.Streams.{GivesNothing}
use Rattle.client_loop.specs.declared.status.ClientStatus.{ClientStatus}

-- a stream: the bytes that it will give, and all that were written to it, where they are known
pub record Wire : Type 0 where
  pub remaining : Option (List ℕ)
  pub contents : Option (List ℕ)

-- what is known of a stream, by what its type says
abbrev pub wire_of : {S : Type 0} → (S → Option (List ℕ)) → (S → Option (List ℕ)) → S → Wire
wire_of remaining contents stream = record { remaining = remaining stream; contents = contents stream }

-- a client: its conversation now, and as it was when bytes were last sent to it; its own stream now, and as it was when the client came
pub record ClientState : Type 0 where
  pub now : Conversation
  pub released : Conversation
  pub wire : Wire
  pub began : Wire

abbrev pub new_client : Wire → ClientState
new_client wire = record { now = no_conversation; released = no_conversation; wire = wire; began = wire }

abbrev pub status_of : ClientState → ClientStatus
status_of c = record { over = c.now.over; more = c.now.more; withheld = length c.now.withheld }

-- its session goes on, and all that it has asked is answered and sent
abbrev pub awaits_input : ClientStatus → Bool
awaits_input s = not s.over && (not s.more && s.withheld == 0)

-- a slot for one client at a time: the clients that had it before, in order, and the one that has it
pub record SlotState : Type 0 where
  pub earlier : List ClientState
  pub client : Option ClientState

abbrev pub free_slot : SlotState
free_slot = record { earlier = []; client = None }

abbrev pub listed : Option ClientState → List ClientState
listed None = []
listed (Some c) = c ∷ []

-- all clients of a slot so far
abbrev pub clients_of : SlotState → List ClientState
clients_of slot = slot.earlier ++ listed slot.client

abbrev pub with_client : SlotState → ClientState → SlotState
with_client slot c = record { earlier = slot.earlier; client = Some c }

abbrev pub without_client : SlotState → SlotState
without_client slot = record { earlier = clients_of slot; client = None }

-- the conversation with the first n of the withheld bytes sent
abbrev pub sent_of : Conversation → ℕ → Conversation
sent_of c n = record c { sent = c.sent ++ take n c.withheld; withheld = drop n c.withheld }

-- the conversation once the service has parted with the client: what was withheld is dropped, and these bytes were sent in its place
abbrev pub parted_of : Conversation → List ℕ → Conversation
parted_of c farewell = record c { withheld = []; over = true; parted = Some farewell }

-- all bytes that were sent
abbrev pub farewell_in : Option (List ℕ) → List ℕ
farewell_in None = []
farewell_in (Some farewell) = farewell

abbrev pub all_sent : Conversation → List ℕ
all_sent c = c.sent ++ farewell_in c.parted

-- What a client was heard of was read from its own stream, and all that was sent to it was written there, and nothing else.
pub record HasOwnStream (c : ClientState) : Type 0 where
  -- what was read after its session
  pub discarded : List ℕ
  pub live : c.now.over ≡ false → discarded ≡ []
  pub read : Consumes c.began.remaining c.wire.remaining (c.now.received ++ discarded)
  pub wrote : Appends c.began.contents c.wire.contents (all_sent c.now)

-- Since then the client was heard, and no byte of an answer was sent to it.
pub record IsSince (old new : Conversation) : Type 0 where
  pub sent_is : new.sent ≡ old.sent
  pub received : List ℕ
  pub received_is : new.received ≡ old.received ++ received
  pub exchanges : List Exchange
  pub exchanges_are : new.exchanges ≡ old.exchanges ++ exchanges
  pub text : List ℕ
  pub withheld_is : new.parted ≡ None → new.withheld ≡ old.withheld ++ text

-- Its bytes spell its commands and its answers, now and when bytes were last sent to it. They are those of its own stream.
pub record IsClient (follows : Conversation → Type 0) (c : ClientState) : Type 0 where
  pub now : follows c.now
  pub released : follows c.released
  pub since : IsSince c.released c.now
  pub own : HasOwnStream c

-- the commands of these clients, one client after another
abbrev pub exchanges_by : List ClientState → List Exchange
exchanges_by clients = flat_map (λ (c : ClientState). c.now.exchanges) clients

-- When bytes were last sent to a client, its commands up to then, after those of the earlier clients of its slot, were the first entries
-- under its number, and these are covered.
abbrev pub IsDurable : List Entry → ℕ → ℕ → List Exchange → ClientState → Type 0
IsDurable history covered number before c =
    (c.released.exchanges ≡ [])
    ⊎ ((n : ℕ) × (n ≤ covered) × (part_of number (take n history) ≡ entries_of number (before ++ c.released.exchanges)))

abbrev pub AreDurable : List Entry → ℕ → ℕ → List Exchange → List ClientState → Type 0
AreDurable history covered number before [] = ⊤
AreDurable history covered number before (c ∷ cs) =
    IsDurable history covered number before c × AreDurable history covered number (before ++ c.now.exchanges) cs

abbrev pub AreClients : (Conversation → Type 0) → List ClientState → Type 0
AreClients follows [] = ⊤
AreClients follows (c ∷ cs) = IsClient follows c × AreClients follows cs

-- The entries under a slot's number are the commands of its clients, in order, each once, with their replies. What a client was sent rests
-- on covered entries.
pub record AreServed (follows : ℕ → Conversation → Type 0) (history : List Entry) (covered number : ℕ) (clients : List ClientState) : Type 0 where
  pub each : AreClients (follows number) clients
  pub part : part_of number history ≡ entries_of number (exchanges_by clients)
  pub durable : AreDurable history covered number [] clients

-- ---- what happens to a client

-- Its session goes on. A piece that its stream gave is heard.
pub record ClientHears {D : Type 0} (follows : Conversation → Type 0) (number : ℕ) (piece : List ℕ) (store store_new : StoreState D) (old new : ClientState) : Type 0 where
  pub live : old.now.over ≡ false
  pub now : Conversation
  pub wire : Wire
  pub read : Consumes old.wire.remaining wire.remaining piece
  pub kept : wire.contents ≡ old.wire.contents
  pub is : new ≡ record old { now = now; wire = wire }
  pub hears : Hears number piece store old.now store_new now
  pub follows_is : follows now

-- The first n of the bytes that are withheld from it were written to its stream.
pub record ClientSends (follows : Conversation → Type 0) (n : ℕ) (old new : ClientState) : Type 0 where
  pub unparted : old.now.parted ≡ None
  pub within : n ≤ length old.now.withheld
  pub wire : Wire
  pub wrote : Appends old.wire.contents wire.contents (take n old.now.withheld)
  pub kept : wire.remaining ≡ old.wire.remaining
  pub is : new ≡ record old { now = sent_of old.now n; released = sent_of old.now n; wire = wire }
  pub follows_is : follows (sent_of old.now n)

-- Some bytes were withheld from it, and the service parts with it: the farewell was written to its stream.
pub record ClientParts (follows : Conversation → Type 0) (farewell : List ℕ) (old new : ClientState) : Type 0 where
  pub unparted : old.now.parted ≡ None
  pub some : old.now.withheld ≢ []
  pub wire : Wire
  pub wrote : Appends old.wire.contents wire.contents farewell
  pub kept : wire.remaining ≡ old.wire.remaining
  pub is : new ≡ record old { now = parted_of old.now farewell; wire = wire }
  pub follows_is : follows (parted_of old.now farewell)

-- Its session is over. What its stream gave is not heard.
pub record ClientDiscards (old new : ClientState) : Type 0 where
  pub over : old.now.over ≡ true
  pub piece : List ℕ
  pub wire : Wire
  pub read : Consumes old.wire.remaining wire.remaining piece
  pub kept : wire.contents ≡ old.wire.contents
  pub is : new ≡ record old { wire = wire }

-- ---- or why nothing happens to it

-- Nothing is heard of it: its next bytes may not be read, or its stream gives nothing.
abbrev pub IsUnheard : ClientState → Type 0
IsUnheard c = awaits_input (status_of c) ≡ true → GivesNothing c.wire.remaining

-- Its session goes on only where its stream gives nothing.
abbrev pub IsSilent : ClientState → Type 0
IsSilent c = c.now.over ≡ false → GivesNothing c.wire.remaining

-- Its session is over only where its stream gives nothing.
abbrev pub IsDrained : ClientState → Type 0
IsDrained c = c.now.over ≡ true → GivesNothing c.wire.remaining

abbrev pub IsOver : ClientState → Type 0
IsOver c = c.now.over ≡ true

-- The service has parted with it.
abbrev pub IsParted : ClientState → Type 0
IsParted c = c.now.parted ≢ None

-- Nothing is withheld from it.
abbrev pub OwesNothing : ClientState → Type 0
OwesNothing c = c.now.withheld ≡ []

-- ---- and to a slot

-- the client that has the slot changes so
abbrev pub SlotChanges : (ClientState → ClientState → Type 0) → SlotState → SlotState → Type 0
SlotChanges changes old new =
    (c : ClientState) × (d : ClientState) × (old.client ≡ Some c) × (new ≡ with_client old d) × changes c d

abbrev pub SlotHears : {D : Type 0} → (Conversation → Type 0) → ℕ → List ℕ → StoreState D → StoreState D → SlotState → SlotState → Type 0
SlotHears follows number piece store store_new old new = SlotChanges (ClientHears follows number piece store store_new) old new

abbrev pub SlotSends : (Conversation → Type 0) → ℕ → SlotState → SlotState → Type 0
SlotSends follows n old new = SlotChanges (ClientSends follows n) old new

abbrev pub SlotParts : (Conversation → Type 0) → List ℕ → SlotState → SlotState → Type 0
SlotParts follows farewell old new = SlotChanges (ClientParts follows farewell) old new

abbrev pub SlotDiscards : SlotState → SlotState → Type 0
SlotDiscards old new = SlotChanges ClientDiscards old new

-- a client with this stream takes the slot
abbrev pub SlotJoins : Wire → SlotState → SlotState → Type 0
SlotJoins wire old new = (old.client ≡ None) × (new ≡ with_client old (new_client wire))

abbrev pub SlotLeaves : SlotState → SlotState → Type 0
SlotLeaves old new = new ≡ without_client old
