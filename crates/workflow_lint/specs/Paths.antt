-- The path of a member of a workflow as a lint prints it: `jobs.build.strategy.matrix.os[2]`. A name with characters other than
-- ASCII letters, digits, `-` and `_` appears in brackets as JSON: `jobs["a b"]`. This is defined by this project.
use Rattle.std.specs.Prelude.{ℕ, List, [], ◌∷◌, ◌++◌, Bool, false, ◌||◌, ◌==◌, codes, decimal, if◌then◌else◌}
use Rattle.std.specs.Char.{is_ascii_alphabetic, is_ascii_digit}
use Rattle.std.specs.List.{list_all}
use Rattle.json.specs.Print.{quoted}

abbrev pub is_plain_byte : ℕ → Bool
is_plain_byte b = is_ascii_alphabetic b || is_ascii_digit b || b == 45 || b == 95

abbrev pub is_plain_name : List ℕ → Bool
is_plain_name [] = false
is_plain_name (b ∷ bs) = list_all is_plain_byte (b ∷ bs)

-- the path of an object before the name of a member; it is empty for the workflow
abbrev pub dotted : List ℕ → List ℕ
dotted [] = []
dotted (b ∷ bs) = (b ∷ bs) ++ codes "."

abbrev pub member_path : List ℕ → List ℕ → List ℕ
member_path path name = if is_plain_name name then dotted path ++ name else path ++ codes "[" ++ quoted name ++ codes "]"

-- the path of an item of a list; items are counted from 0
abbrev pub item_path : List ℕ → ℕ → List ℕ
item_path path i = path ++ codes "[" ++ decimal i ++ codes "]"
