-- What a crash might have left since an earlier moment, where `Left calls c` says that a crash after these calls may leave c. The calls
-- come newest first, and the moment is their number.
use Rattle.std.specs.Prelude.{◌≡◌, ℕ, ◌+◌, ◌≤◌, List, ◌++◌, length}

-- a crash after t or more of these calls might have left this image
abbrev pub LeftSince : {X : Type 0} → (List X → List ℕ → Type 0) → List X → ℕ → List ℕ → Type 0
LeftSince {X = X} Left calls t c =
    (later : List X) × (earlier : List X) × (calls ≡ later ++ earlier) × (t ≤ length earlier) × Left earlier c
