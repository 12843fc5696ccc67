-- A file with bytes written into it.
use Rattle.std.specs.Prelude.{ℕ, ◌+◌, List, ◌++◌, length, take, drop, replicate}

-- the file with these bytes at `at`; a shorter file is first extended with zeros up to `at`
abbrev pub laid : ℕ → List ℕ → List ℕ → List ℕ
laid at bytes file = take at (file ++ replicate at 0) ++ bytes ++ drop (at + length bytes) file
