-- The last part that a checkpoint writes: one record of the entries since it was begun, if there are any, and the gate after it.
use Rattle.std.specs.Prelude.{◌≡◌, ℕ, ◌+◌, ◌-◌, ◌≤◌, List, [], ◌∷◌, ◌++◌, length, take, drop}
use Rattle.std.specs.Int.{to_be_bytes, w32}
use Rattle.definitions.specs.Area.{record_bytes}
use Rattle.run_plan.specs.declared.command.Command.{Command}
use Rattle.command_encodings.specs.Commands.{batch}
use Rattle.act_store.specs.PendingBatch.{count_length}

abbrev pub bodies_of : List Command → List (List ℕ)
bodies_of [] = []
bodies_of (command ∷ commands) = batch.encoding (command ∷ commands) ∷ []

abbrev pub last_part : List Command → List ℕ
last_part commands = record_bytes (bodies_of commands) ++ 0 ∷ []

-- ---- how it grows

-- what precedes the commands, and their encodings in a row
pub record LastState : Type 0 where
  pub front : List ℕ
  pub encoded : List ℕ

-- an open gate, the length of a body and the number of its commands
abbrev pub front_bytes : ℕ → ℕ → List ℕ
front_bytes body count = 0xA5 ∷ (to_be_bytes w32 body ++ to_be_bytes w32 count)

-- what precedes so many commands with these encodings
abbrev pub front_of : ℕ → List ℕ → List ℕ
front_of count encoded = front_bytes (count_length + length encoded) count

-- what is written: without commands the gate alone
abbrev pub written_with : List ℕ → List ℕ → List ℕ
written_with front [] = 0 ∷ []
written_with front (x ∷ xs) = front ++ ((x ∷ xs) ++ 0 ∷ [])

abbrev pub written_part : LastState → List ℕ
written_part part = written_with part.front part.encoded

-- ---- the representation

-- nine bytes precede the commands, and one follows them
abbrev pub last_state : List ℕ → LastState
last_state bytes = record { front = take 9 bytes; encoded = take (length bytes - 10) (drop 9 bytes) }

-- the one that follows is a closed gate
pub record IsLastPart (bytes : List ℕ) : Type 0 where
  pub long : 10 ≤ length bytes
  pub is : bytes ≡ take 9 bytes ++ (take (length bytes - 10) (drop 9 bytes) ++ 0 ∷ [])
