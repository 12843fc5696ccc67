-- The gate of the area that is not active.
use Rattle.std.specs.Prelude.{◌≡◌, ℕ, List, Some}
use Rattle.definitions.specs.Area.{IsClosed}
use Rattle.gated_journal.specs.TwoAreas.{area_on, other, active_side}
use Rattle.gated_journal.specs.declared.side.Side.{Side}

-- Beside the active area of a disk, with areas of this length, the other one has a closed gate.
abbrev pub IsShutBeside : ℕ → List ℕ → Type 0
IsShutBeside len image = (side : Side) → active_side len image ≡ Some side → IsClosed (area_on len (other side) image)
