-- Which of a disk's two areas is active.
use Rattle.std.specs.Prelude.{ℕ, List, [], ◌∷◌, take, drop, ◌==◌, nat_lt, if◌then◌else◌, Option, Some, None}
use Rattle.std.specs.Int.{from_be_bytes, w64}
use Rattle.gated_journal.specs.Lengths.{generation_length, version_length}
use Rattle.gated_journal.specs.declared.side.Side.{Side}
use Rattle.gated_journal.specs.declared.side.Side.TheVariants.{First, Second}

-- `len` bytes of a disk from `start` on
abbrev pub part : ℕ → ℕ → List ℕ → List ℕ
part start len disk = take len (drop start disk)

-- the generation of an area whose gate is open; it follows the gate and the version
abbrev pub open_generation : List ℕ → Option ℕ
open_generation [] = None
open_generation (gate ∷ suffix) = if gate == 0xA5 then Some (from_be_bytes w64 (take generation_length (drop version_length suffix))) else None

-- The area whose gate is open. Of two, the one with the greater generation; of equal ones, the first.
abbrev pub newer : Option ℕ → Option ℕ → Option Side
newer None None = None
newer (Some first) None = Some First
newer None (Some second) = Some Second
newer (Some first) (Some second) = if nat_lt first second then Some Second else Some First

abbrev pub chosen : List ℕ → List ℕ → Option Side
chosen first second = newer (open_generation first) (open_generation second)
