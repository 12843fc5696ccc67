-- The last lines of a log.
use Rattle.std.specs.Prelude.{ℕ, ◌+◌, ◌<◌, ◌≤◌, ◌^◌, List, [], ◌∷◌, ◌++◌, drop, length, nat_lt, if◌then◌else◌}
use Rattle.definitions.specs.Limits.{most_kept}

-- the texts of the last lines, and how many lines came before them
pub record KeptState : Type 0 where
  pub first : ℕ
  pub lines : List (List ℕ)

abbrev pub new_kept : KeptState
new_kept = record { first = 0; lines = [] }

-- how many lines there were
abbrev pub end_of : KeptState → ℕ
end_of k = k.first + length k.lines

-- how many lines are not kept once there is room for one more: the oldest goes if as many are kept as may be
abbrev pub first_after : ℕ → ℕ → ℕ
first_after first count = if nat_lt count most_kept then first else first + 1

abbrev pub with_room : KeptState → KeptState
with_room k = record { first = first_after k.first (length k.lines); lines = if nat_lt (length k.lines) most_kept then k.lines else drop 1 k.lines }

-- one more line, which is kept
abbrev pub with_text : KeptState → List ℕ → KeptState
with_text k text = record { first = (with_room k).first; lines = (with_room k).lines ++ text ∷ [] }

-- one more line, which is lost: none is kept
abbrev pub without_text : KeptState → KeptState
without_text k = record { first = end_of k + 1; lines = [] }

pub record AreKept (k : KeptState) : Type 0 where
  pub few : length k.lines ≤ most_kept
  pub counted : end_of k < 2 ^ 64
