-- A job of a run, with room for all legs of its plan from the start.
use Rattle.std.specs.Prelude.{◌≡◌, ℕ, List, [], length, map, Bool, Option, Some, slice_get, if◌then◌else◌}
use Rattle.wf_value.specs.declared.outcome.JobResult.{JobResult}
use Rattle.run_plan.specs.declared.planned.PlannedJob.{PlannedJob}
use Rattle.table_model.specs.Runs.{finished_result, LegState, JobState, RunState}
use Rattle.table_model.specs.LegContext.{planned_legs}
use Rattle.table_model.specs.declared.phases.JobPhase.{JobPhase}
use Rattle.table_model.specs.declared.phases.JobPhase.TheVariants as job

-- the job's state, the number of legs for which it has room, and the number of its direct needs that its run counts as not finished
pub record JobCells : Type 0 where
  pub state : JobState
  pub room : ℕ
  pub needs_left : ℕ

-- a job that has not opened has no legs, whatever is in its room
abbrev pub cells_of : JobPhase → Bool → List LegState → ℕ → JobCells
cells_of phase has_legs legs needs_left =
    record { state = record { phase = phase; legs = if has_legs then legs else [] }; room = length legs; needs_left = needs_left }

-- the same job in another state
abbrev pub in_state : JobState → JobCells → JobCells
in_state state cells = record cells { state = state }

-- the states of the jobs, as a run holds them
abbrev pub states : List JobCells → List JobState
states jobs = map (λ j. j.state) jobs

abbrev pub rooms : List JobCells → List ℕ
rooms jobs = map (λ j. j.room) jobs

-- each job of run `r` has room for the legs of its plan
abbrev pub HaveTheirRoom : List RunState → ℕ → List JobCells → Type 0
HaveTheirRoom runs r jobs = (j : ℕ) (x : JobCells) → slice_get jobs j ≡ Some x → x.room ≡ planned_legs runs r j

-- the number of legs of each job of a plan
abbrev pub legs_planned : List PlannedJob → List ℕ
legs_planned plan = map (λ planned. length planned.legs) plan

-- a blocked job with room for the legs of its plan, before its needs are counted
abbrev pub blocked_cells : PlannedJob → JobCells
blocked_cells planned = record { state = record { phase = job.Blocked; legs = [] }; room = length planned.legs; needs_left = 0 }

abbrev pub result_of : JobCells → Option JobResult
result_of j = finished_result j.state.phase
