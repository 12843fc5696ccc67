-- Legs that are read from a table are there.
use Rattle.std.specs.Prelude.{◌≡◌, ℕ, List, [], ◌∷◌, map, Some, option_and_then, option_map, slice_get}
use Rattle.std.specs.List.{AllByRecursion}
use Rattle.std.proofs.Common.{ap, ◌∙◌}
use Rattle.table_model.specs.Runs.{placed, job_at, leg_at, leg_site, JobState, LegState, RunState}
use Rattle.table_model.specs.inner.PlacedLegs.{PlacedLeg, placed_leg}
use Rattle.table_model.proofs.Found.{all_weaken, placed_get}
use Rattle.table_model.proofs.Optional.{from_map}

abbrev pub IsThere : List RunState → PlacedLeg → Type 0
IsThere runs x = leg_at runs x.site ≡ Some x.leg

mapped : {X Y : Type 0} (P : Y → Type 0) (f : X → Y) (xs : List X) → AllByRecursion (λ x. P (f x)) xs → AllByRecursion P (map f xs)
mapped P f [] all = tt
mapped P f (x ∷ xs) all = (all.0, mapped P f xs all.1)

-- a leg of these legs of a job
pub leg_of_them : (runs : List RunState) (r j : ℕ) (legs : List LegState) (l : ℕ) (z : LegState)
    → option_map (λ (job : JobState). job.legs) (job_at runs r j) ≡ Some legs → slice_get legs l ≡ Some z
    → leg_at runs (leg_site r j l) ≡ Some z
leg_of_them runs r j legs l z are at =
    let job = from_map (λ (y : JobState). y.legs) (job_at runs r j) legs are in
    ap (option_and_then (λ (y : JobState). slice_get y.legs l)) job.is ∙ ap (λ (zs : List LegState). slice_get zs l) job.gives ∙ at

pub legs_there : (runs : List RunState) (r j : ℕ) (legs : List LegState)
    → option_map (λ (job : JobState). job.legs) (job_at runs r j) ≡ Some legs
    → AllByRecursion (IsThere runs) (map (placed_leg r j) (placed legs))
legs_there runs r j legs are =
    mapped (IsThere runs) (placed_leg r j) (placed legs)
    (all_weaken (λ (l : ℕ × LegState). slice_get legs l.0 ≡ Some l.1) (λ l. IsThere runs (placed_leg r j l))
    (λ l at. leg_of_them runs r j legs l.0 l.1 are at) (placed legs) (placed_get legs))
