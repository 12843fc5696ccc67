-- What the commands of a client do to a store.
use Rattle.std.specs.Prelude.{◌≡◌, ◌⊎◌, ◌==◌, ℕ, List, [], ◌∷◌, filter, flat_map, slice_get, Bool, Ok, Err, Some, None}
use Rattle.wf_value.specs.Gives.{no_memory}
use Rattle.table_model.specs.Step.{stepped}
use Rattle.act_sessions.specs.Exchange.{Exchange}
use Rattle.act_store.specs.Plain.{entered, refusal_of_apply}
use Rattle.act_store.specs.StoreState.{StoreState, table_of}
use Rattle.act_store.specs.declared.entry.Entry.{Entry}

-- the entries under a number
abbrev pub part_of : ℕ → List Entry → List Entry
part_of number history = filter (λ (e : Entry). e.seat == number) history

-- whether the entry after so many others is under the number
abbrev pub IsUnder : ℕ → List Entry → ℕ → Bool → Type 0
IsUnder number history position is =
    (entry : Entry) × (slice_get history position ≡ Some entry) × (is ≡ (entry.seat == number))

-- a command that got a reply is an entry with that reply; a refused one is none
abbrev pub entries_of_one : ℕ → Exchange → List Entry
entries_of_one number (command, Ok reply) = record { seat = number; command = command; reply = reply } ∷ []
entries_of_one number (command, Err refusal) = []

abbrev pub entries_of : ℕ → List Exchange → List Entry
entries_of number exchanges = flat_map (entries_of_one number) exchanges

-- One command under this number: the store has no cause to refuse it, and it is entered, with the reply of its step; or it is refused, for
-- the store's cause or out of memory, and changes nothing.
abbrev pub EntersOne : {D : Type 0} → ℕ → StoreState D → Exchange → StoreState D → Type 0
EntersOne number old (command, Ok reply) new =
    (new ≡ entered old number command) × (reply ≡ (stepped (table_of old) command).reply) × (refusal_of_apply old command ≡ None)
EntersOne number old (command, Err e) new = (new ≡ old) × ((e ≡ no_memory) ⊎ (refusal_of_apply old command ≡ Some e))

-- these commands, in order, each once
abbrev pub Enters : {D : Type 0} → ℕ → StoreState D → List Exchange → StoreState D → Type 0
Enters number old [] new = new ≡ old
Enters {D} number old (x ∷ xs) new = (mid : StoreState D) × EntersOne number old x mid × Enters number mid xs new
