-- The legs of a table's runs are those of their plans, so what each asks of a runner was bound.
use Rattle.std.specs.Prelude.{◌≡◌, ◌<◌, ℕ, zero, suc, List, [], ◌∷◌, length, Option, Some, None, option_map, option_and_then, slice_get, refl}
use Rattle.std.specs.Option.{option_map_or}
use Rattle.std.proofs.Common.{arith, ap, sym, ◌∙◌}
use Rattle.std.proofs.lemmas.Option.{same_Some, slice_get-map}
use Rattle.run_plan.specs.PlanOf.{plan_of}
use Rattle.run_plan.specs.declared.planned.PlannedJob.{PlannedJob}
use Rattle.table_model.specs.inner.Cells.{HaveTheirRoom, JobCells, legs_planned, rooms}
use Rattle.table_model.specs.Runs.{run_at, RunState}
use Rattle.table_model.specs.LegContext.{planned_legs}

pub found_below : {X : Type 0} (xs : List X) (l : ℕ) → l < length xs → (x : X) × (slice_get xs l ≡ Some x)
found_below [] l lt = absurd (omega (arith, lt))
found_below (x ∷ xs) zero lt = (x, refl)
found_below (x ∷ xs) (suc l) lt = found_below xs l (omega (arith, lt))

-- ---- the jobs of a run have room for the legs of their plans

legs_of_some : (o : Option PlannedJob) (n : ℕ) → option_map (λ (k : PlannedJob). length k.legs) o ≡ Some n
    → option_map_or (λ (k : PlannedJob). length k.legs) o 0 ≡ n
legs_of_some None n e = cc
legs_of_some (Some k) n e = same_Some (length k.legs) n e

legs_of_plan : (runs : List RunState) (r j : ℕ) (x : RunState) → run_at runs r ≡ Some x
    → planned_legs runs r j ≡ option_map_or (λ (k : PlannedJob). length k.legs) (slice_get (plan_of x.admitted.body) j) 0
legs_of_plan runs r j x at =
    ap (λ o. option_map_or (λ (k : PlannedJob). length k.legs)
    (option_and_then (λ (run : RunState). slice_get (plan_of run.admitted.body) j) o) 0) at

pub have_room : (runs : List RunState) (r : ℕ) (x : RunState) (jobs : List JobCells) → run_at runs r ≡ Some x
    → rooms jobs ≡ legs_planned (plan_of x.admitted.body) → HaveTheirRoom runs r jobs
have_room runs r x jobs at same j job is =
    let plan = plan_of x.admitted.body in
    let room : slice_get (rooms jobs) j ≡ Some job.room =
    slice_get-map (λ (y : JobCells). y.room) jobs j ∙ ap (option_map (λ (y : JobCells). y.room)) is in
    let planned : option_map (λ (k : PlannedJob). length k.legs) (slice_get plan j) ≡ Some job.room =
    sym (slice_get-map (λ (k : PlannedJob). length k.legs) plan j) ∙ ap (λ ns. slice_get ns j) (sym same) ∙ room in
    sym (legs_of_plan runs r j x at ∙ legs_of_some (slice_get plan j) job.room planned)

-- ---- the job of a planned leg, and what was bound for it

pub record PlannedLeg (plan : List PlannedJob) (j l : ℕ) : Type 0 where
  pub job : PlannedJob
  pub is : slice_get plan j ≡ Some job
  pub within : l < length job.legs

planned_in : (plan : List PlannedJob) (j l : ℕ) (o : Option PlannedJob) → slice_get plan j ≡ o
    → l < option_map_or (λ (k : PlannedJob). length k.legs) o 0 → PlannedLeg plan j l
planned_in plan j l None is lt = absurd (omega (arith, lt))
planned_in plan j l (Some job) is lt = record { job = job; is = is; within = lt }

pub planned_leg : (runs : List RunState) (r j l : ℕ) (x : RunState) → run_at runs r ≡ Some x → l < planned_legs runs r j
    → PlannedLeg (plan_of x.admitted.body) j l
planned_leg runs r j l x at lt =
    planned_in (plan_of x.admitted.body) j l (slice_get (plan_of x.admitted.body) j) refl (omega (arith, lt, legs_of_plan runs r j x at))
