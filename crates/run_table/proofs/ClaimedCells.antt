-- Whether a leg of a run was claimed, read from its cells.
use Rattle.std.specs.Prelude.{◌≡◌, ◌||◌, List, [], ◌∷◌}
use Rattle.std.specs.Prelude.{refl}
use Rattle.std.specs.List.{list_any}
use Rattle.std.proofs.Common.{ap}
use Rattle.table_model.specs.inner.Cells.{JobCells, states}
use Rattle.table_model.specs.ViewText.{has_claimed_leg, was_claimed}

pub claimed_cells : (xs : List JobCells) → list_any (λ x. has_claimed_leg x.state) xs ≡ was_claimed (states xs)
claimed_cells [] = refl
claimed_cells (x ∷ xs) = ap (λ b. has_claimed_leg x.state || b) (claimed_cells xs)
