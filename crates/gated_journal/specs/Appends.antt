-- The effect of an append on an image: a record is written after the current gate, then a sync, then the gate.
use Rattle.std.specs.Prelude.{◌≡◌, ◌⊎◌, ℕ, ◌+◌, ◌-◌, ◌<◌, ◌^◌, List, [], ◌∷◌, ◌++◌, length, take, drop}
use Rattle.definitions.specs.Disk.{Torn, Holds}
use Rattle.definitions.specs.Area.{framed}
use Rattle.gated_journal.specs.Lengths.{body_number_length, frame_length}

-- what is written after the gate: the length-prefixed body and a closed gate
abbrev pub record_of : List ℕ → List ℕ
record_of body = framed body ++ 0 ∷ []

-- The record is present. Its gate may be any byte.
pub record IsWhole (gate : ℕ) (bytes old new : List ℕ) : Type 0 where
  pub torn : Torn gate (length bytes + 1) old new
  pub held : Holds new (gate + 1) bytes

-- either the old gate and any bytes in the record's place, or the whole record
abbrev pub Appends : ℕ → List ℕ → List ℕ → List ℕ → Type 0
Appends gate bytes old new = Torn (gate + 1) (length bytes) old new ⊎ IsWhole gate bytes old new

-- the bytes between the length at the start and the gate at the end
abbrev pub body_in : List ℕ → List ℕ
body_in bytes = take (length bytes - frame_length) (drop body_number_length bytes)

-- the bytes encode a record of the body inside them
pub record IsRecord (bytes : List ℕ) : Type 0 where
  pub is : bytes ≡ record_of (body_in bytes)
  pub short : length (body_in bytes) < 2 ^ 32
