-- The contents of a tree of properties. GitHub Docs, "Contexts reference" (About contexts).
use Rattle.std.specs.Prelude.{◌≡◌, ◌≢◌, ℕ, List, [], ◌∷◌, Option}
use Rattle.std.specs.Option.{option_and_then}
use Rattle.std.specs.BTreeMap.{get_by_text}
use Rattle.wf_value.specs.declared.scalar.Scalar.{Scalar}
use Rattle.wf_expr.specs.declared.properties.Properties.{Properties}
use Rattle.wf_expr.specs.declared.properties.Properties.TheViews.{out-Properties}

-- the value of a path, if any; a path is a list of names
abbrev pub value_at : Properties → List (List ℕ) → Option Scalar
value_at tree [] = (out-Properties tree).value
value_at tree (name ∷ path) = option_and_then (λ inner. value_at inner path) (get_by_text (out-Properties tree).inner name)

-- both have the same value for each path
abbrev pub AreSame : Properties → Properties → Type 0
AreSame one other = (path : List (List ℕ)) → value_at one path ≡ value_at other path

-- both have the same value for each path except one
abbrev pub DifferAt : List (List ℕ) → Properties → Properties → Type 0
DifferAt path one other = (p : List (List ℕ)) → p ≢ path → value_at one p ≡ value_at other p

-- the path begins with the name
abbrev pub BeginsWith : List ℕ → List (List ℕ) → Type 0
BeginsWith name path = (rest : List (List ℕ)) × (path ≡ name ∷ rest)

-- both have the same value for each path that does not begin with the name
abbrev pub DifferAfter : List ℕ → Properties → Properties → Type 0
DifferAfter name one other = (path : List (List ℕ)) → ¬ (BeginsWith name path) → value_at one path ≡ value_at other path
