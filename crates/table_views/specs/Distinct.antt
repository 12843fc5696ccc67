-- A list without repetitions.
use Rattle.std.specs.Prelude.{List, [], ◌∷◌, Bool, not}
use Rattle.std.specs.List.{filter}

-- each element once, where it first comes; a test says which are the same
abbrev pub distinct : {X : Type 0} → (X → X → Bool) → List X → List X
distinct same [] = []
distinct same (x ∷ xs) = x ∷ filter (λ y. not (same x y)) (distinct same xs)
