-- A disk of two adjacent areas. It reads as its active area does.
use Rattle.std.specs.Prelude.{◌≡◌, ℕ, ◌+◌, ◌≤◌, ◌<◌, List, [], ◌∷◌, ◌++◌, length, Option, Some}
use Rattle.definitions.specs.Disk.{Holds}
use Rattle.gated_journal.specs.Choice.{part, chosen}
use Rattle.definitions.specs.Area.{Head, head_bytes, record_bytes, IsClosed, Fits, Reads}
use Rattle.gated_journal.specs.declared.gate.GateState.{GateState}
use Rattle.gated_journal.specs.declared.gate.GateState.TheVariants.{Open, Closed}
use Rattle.gated_journal.specs.declared.side.Side.{Side}
use Rattle.gated_journal.specs.declared.side.Side.TheVariants.{First, Second}

-- where the area of a side begins, if each is `len` long
abbrev pub start_of : ℕ → Side → ℕ
start_of len First = 0
start_of len Second = len

abbrev pub other : Side → Side
other First = Second
other Second = First

-- its bytes
abbrev pub area_on : ℕ → Side → List ℕ → List ℕ
area_on len side disk = part (start_of len side) len disk

-- the side of the active area
abbrev pub active_side : ℕ → List ℕ → Option Side
active_side len disk = chosen (area_on len First disk) (area_on len Second disk)

-- the state of an area's gate
abbrev pub IsGate : GateState → List ℕ → Type 0
IsGate Open [] = ⊥
IsGate Open (gate ∷ suffix) = gate ≡ 0xA5
IsGate Closed area = IsClosed area

-- The disk has two areas of length `len`. The area of this side is active and reads as this head and these bodies.
pub record Encodes (len : ℕ) (side : Side) (disk : List ℕ) (head : Head) (bodies : List (List ℕ)) : Type 0 where
  pub long : len + len ≤ length disk
  pub recovers : active_side len disk ≡ Some side
  pub reads : Reads (area_on len side disk) head bodies

-- The same, and the gate of the other area is in this state.
pub record Recovers (len : ℕ) (side : Side) (gate : GateState) (disk : List ℕ) (head : Head) (bodies : List (List ℕ)) : Type 0 where
  pub encodes : Encodes len side disk head bodies
  pub other_gate : IsGate gate (area_on len (other side) disk)

-- what follows the gate of an area that reads so; the last byte is the closed gate after its records
abbrev pub after_gate : Head → List (List ℕ) → List ℕ
after_gate head bodies = head_bytes head ++ record_bytes bodies ++ 0 ∷ []

-- Once these bytes are written at that offset of the other area, that area is complete: the rest of its contents precedes them, and its
-- generation is greater than that of the active area.
pub record Completes (len : ℕ) (side : Side) (seen : List ℕ) (at : ℕ) (bytes : List ℕ) (head next : Head)
    (others : List (List ℕ)) : Type 0 where
  pub prefix : List ℕ
  pub held : Holds seen (start_of len (other side) + 1) prefix
  pub place : at ≡ 1 + length prefix
  pub whole : prefix ++ bytes ≡ after_gate next others
  pub fits : Fits next others
  pub newer : head.generation < next.generation
