-- Jobs that are built from their parts.
use Rattle.std.specs.Prelude.{◌≡◌, ℕ, List, length, Some, option_map, slice_get}
use Rattle.std.proofs.Common.{ap, sym, subst, ◌∙◌}
use Rattle.std.proofs.lemmas.Option.{same_Some, slice_get-map}
use Rattle.run_plan.specs.declared.planned.PlannedJob.{PlannedJob}
use Rattle.table_model.specs.AsPlanned.{HasItsRoom, HasRoom}
use Rattle.table_model.specs.inner.Cells.{legs_planned}
use Rattle.table_model.specs.Runs.{JobState}

pub room_here : (plan : List PlannedJob) (j : ℕ) (planned : PlannedJob) (x : JobState) → slice_get plan j ≡ Some planned
    → HasRoom (length planned.legs) x.legs → HasItsRoom plan j x
room_here plan j planned x at room other is =
    subst (λ (k : PlannedJob). HasRoom (length k.legs) x.legs) (same_Some planned other (sym at ∙ is)) room

pub planned_here : (plan : List PlannedJob) (j : ℕ) (planned : PlannedJob) → slice_get plan j ≡ Some planned
    → slice_get (legs_planned plan) j ≡ Some (length planned.legs)
planned_here plan j planned at =
    slice_get-map (λ (k : PlannedJob). length k.legs) plan j ∙ ap (option_map (λ (k : PlannedJob). length k.legs)) at
