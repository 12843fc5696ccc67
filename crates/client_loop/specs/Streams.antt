-- What a stream gives.
use Rattle.std.specs.Prelude.{◌≡◌, ℕ, List, [], Option, None, Some, ⊤}

-- It may give nothing: what it will give is not known, or it has given all.
abbrev pub GivesNothing : Option (List ℕ) → Type 0
GivesNothing None = ⊤
GivesNothing (Some bytes) = bytes ≡ []
