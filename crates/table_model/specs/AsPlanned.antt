-- Runs that match their plans: each has the jobs of its plan, and each job has none of its legs or all.
use Rattle.std.specs.Prelude.{◌≡◌, ◌⊎◌, ℕ, ◌≤◌, List, [], length, slice_get, Some}
use Rattle.definitions.specs.Limits.{max_runs}
use Rattle.run_plan.specs.PlanOf.{plan_of}
use Rattle.run_plan.specs.declared.planned.PlannedJob.{PlannedJob}
use Rattle.table_model.specs.Runs.{run_at, LegState, JobState, RunState}

-- a job has none of its legs, or all that its plan has
abbrev pub HasRoom : ℕ → List LegState → Type 0
HasRoom room legs = (legs ≡ []) ⊎ (length legs ≡ room)

abbrev pub HasItsRoom : List PlannedJob → ℕ → JobState → Type 0
HasItsRoom plan j x = (planned : PlannedJob) → slice_get plan j ≡ Some planned → HasRoom (length planned.legs) x.legs

abbrev pub HaveRoom : List PlannedJob → List JobState → Type 0
HaveRoom plan jobs = (j : ℕ) (x : JobState) → slice_get jobs j ≡ Some x → HasItsRoom plan j x

pub record IsAsPlanned (plan : List PlannedJob) (jobs : List JobState) : Type 0 where
  pub as_many : length jobs ≡ length plan
  pub have_room : HaveRoom plan jobs

pub record AreAsPlanned (runs : List RunState) : Type 0 where
  pub few : length runs ≤ max_runs
  pub each : (r : ℕ) (x : RunState) → run_at runs r ≡ Some x → IsAsPlanned (plan_of x.admitted.body) x.jobs
