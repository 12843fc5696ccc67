-- The bytes after a write that failed.
use Rattle.std.specs.Prelude.{◌≡◌, ℕ, List, length, take}

-- the bytes before are a prefix of those after
abbrev pub Keeps : List ℕ → List ℕ → Type 0
Keeps before after = take (length before) after ≡ before
