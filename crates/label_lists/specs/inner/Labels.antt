-- When two lists of labels are the same map key, and what the hash of a list is fed.
use Rattle.std.specs.Prelude.{ℕ, List, Bool}
use Rattle.std.specs.Cmp.Lexicographic.{pointwise}
use Rattle.std.specs.Hash as fed
use Rattle.std.specs.Str.{bytes_eq}

-- the same labels in the same order, byte for byte
abbrev pub labels_eq : List (List ℕ) → List (List ℕ) → Bool
labels_eq = pointwise bytes_eq

abbrev pub hashed : List (List ℕ) → List (List ℕ)
hashed labels = fed.slice fed.str labels
