-- How much of an area determines what it reads as.
use Rattle.std.specs.Prelude.{◌≡◌, ◌⊎◌, ◌↔◌, ℕ, ◌*◌, ◌≤◌, List, length, take}
use Rattle.gated_journal.specs.Choice.{part}
use Rattle.definitions.specs.Area.{Head, Reads, ReadsNothing}
use Rattle.definitions.specs.Limits.{first_read}

-- The bytes are those of the disk from there on.
abbrev pub IsPrefixOf : ℕ → List ℕ → List ℕ → Type 0
IsPrefixOf start bytes disk = bytes ≡ part start (length bytes) disk

-- The bytes read as the area does: as the same head and bodies, or as nothing.
abbrev pub ReadsAlike : List ℕ → List ℕ → Type 0
ReadsAlike bytes area = (head : Head) (bodies : List (List ℕ)) → Reads bytes head bodies ↔ Reads area head bodies

abbrev pub ReadsSomething : List ℕ → Type 0
ReadsSomething bytes = (head : Head) × (bodies : List (List ℕ)) × Reads bytes head bodies

-- The bytes are at most 65,536, or at least half of them are needed: a prefix of half their length or more reads as nothing.
abbrev pub IsShort : List ℕ → Type 0
IsShort bytes = (length bytes ≤ first_read) ⊎ ((n : ℕ) × (length bytes ≤ 2 * n) × ReadsNothing (take n bytes))
