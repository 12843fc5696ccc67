-- How the ids of a cycle are printed.
use Rattle.std.specs.Prelude.{ℕ, List, ◌++◌, codes}

-- a space and a text
abbrev pub spaced : List ℕ → List ℕ
spaced text = codes " " ++ text
