-- How many of the jobs that each job of a run needs directly have not finished.
use Rattle.std.specs.Prelude.{◌≡◌, ◌≤◌, ℕ, List, count_by, is_none, map, nat_eq, None, Option}
use Rattle.std.specs.List.{slice_index_or}
use Rattle.wf_value.specs.declared.outcome.JobResult.{JobResult}
use Rattle.needs_graph.specs.Needs.{needs_at}
use Rattle.run_plan.specs.PlanOf.{plan_graph}
use Rattle.run_plan.specs.declared.planned.PlannedJob.{PlannedJob}
use Rattle.table_model.specs.inner.Cells.{JobCells, legs_planned, rooms, states}
use Rattle.table_model.specs.Runs.{results_so_far}

-- how many of the jobs at these indices have no result so far
abbrev pub unfinished : List (Option JobResult) → List ℕ → ℕ
unfinished results indexes = count_by (λ index. is_none (slice_index_or results index None)) indexes

-- the count that job `j` keeps
abbrev pub needs_left_at : List JobCells → ℕ → ℕ
needs_left_at jobs j = slice_index_or (map (λ x. x.needs_left) jobs) j 0

-- each job counts those of its direct needs that have not finished
abbrev pub NeedsAreLeft : List (List ℕ) → List JobCells → Type 0
NeedsAreLeft needs jobs = (j : ℕ) → needs_left_at jobs j ≡ unfinished (results_so_far (states jobs)) (needs_at needs j)

-- the needs of a job name no job twice
abbrev pub NamedOnce : List (List ℕ) → Type 0
NamedOnce needs = (j other : ℕ) → count_by (nat_eq other) (needs_at needs j) ≤ 1

-- the jobs match the plan: each has room for its legs, and counts its needs that have not finished
abbrev pub ArePlanned : List PlannedJob → List JobCells → Type 0
ArePlanned plan jobs = (rooms jobs ≡ legs_planned plan) × NeedsAreLeft (plan_graph plan) jobs
