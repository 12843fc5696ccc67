-- Looking up deliveries.
use Rattle.std.specs.Prelude.{◌≡◌, ℕ, List, String}
use Rattle.std.specs.List.{position}
use Rattle.std.specs.Str.{bytes_eq}
use Rattle.std.specs.declared.alloc.Global.{Global}
use Rattle.indexmap.specs.IndexMap.{IndexMap, get_by_text}

-- the index of the first of each delivery is kept, and nothing else
abbrev pub FindsKept : {S : Type 0} → List (List ℕ) → IndexMap (String Global) ℕ S → Type 0
FindsKept deliveries indexes =
    (delivery : List ℕ) → get_by_text indexes delivery ≡ position (λ known. bytes_eq known delivery) deliveries
