-- Whether some element of a list passes a test: in a mapped list, and among the numbers of a range.
use Rattle.std.specs.Prelude.{◌≡◌, ◌||◌, List, map, [], ◌∷◌, Bool}
use Rattle.std.specs.Prelude.{refl}
use Rattle.std.specs.List.{list_any}
use Rattle.std.proofs.Common.{ap}

pub list_any-map : {X Y : Type 0} (p : Y → Bool) (f : X → Y) (xs : List X) → list_any p (map f xs) ≡ list_any (λ x. p (f x)) xs
list_any-map p f [] = refl
list_any-map p f (x ∷ xs) = ap (λ b. p (f x) || b) (list_any-map p f xs)
