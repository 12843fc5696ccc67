-- The texts of a group as a map key, and what its hash is fed.
use Rattle.std.specs.Prelude.{ℕ, List, ◌++◌, encode_utf8_all}
use Rattle.std.specs.Hash as fed
use Rattle.group_name.specs.Group.{Group}

abbrev pub repository_bytes : Group → List ℕ
repository_bytes g = g.repository

-- the text of the case-folded name
abbrev pub name_bytes : Group → List ℕ
name_bytes g = encode_utf8_all g.folded

abbrev pub hashed : Group → List (List ℕ)
hashed g = fed.str (repository_bytes g) ++ fed.str (name_bytes g)
