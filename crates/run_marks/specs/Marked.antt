-- Sets of numbers, and the bound below which memory is reserved.
use Rattle.std.specs.Prelude.{◌≡◌, ℕ, ◌*◌, ◌≤◌, List, length, Bool, nat_eq, if◌then◌else◌}
use Rattle.run_marks.specs.Bits.{row_has}

-- whether the set contains a number
abbrev pub is_marked : List ℕ → ℕ → Bool
is_marked marks i = row_has marks i

-- memory is reserved for all numbers below the bound
abbrev pub Covers : List ℕ → ℕ → Type 0
Covers marks bound = bound ≤ 64 * length marks

-- both sets contain the same numbers
abbrev pub SameMarks : List ℕ → List ℕ → Type 0
SameMarks old new = (i : ℕ) → is_marked new i ≡ is_marked old i

-- the number is in the set or not, as given; all others are as before
abbrev pub Puts : Bool → ℕ → List ℕ → List ℕ → Type 0
Puts to k old new = (i : ℕ) → is_marked new i ≡ (if nat_eq i k then to else is_marked old i)
