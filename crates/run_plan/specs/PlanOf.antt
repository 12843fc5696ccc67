-- The plan of a workflow. Each job has, in order, the labels that its legs require, how the legs go on when one fails, and the legs
-- with their combinations. The graph says which jobs each job needs.
-- GitHub Docs, "Running variations of jobs in a workflow" and "Workflow syntax for GitHub Actions", jobs.<job_id>.runs-on,
-- jobs.<job_id>.needs, jobs.<job_id>.if, jobs.<job_id>.continue-on-error, jobs.<job_id>.concurrency, jobs.<job_id>.strategy.
use Rattle.std.specs.Prelude.{ℕ, List, [], ◌∷◌, ◌++◌, map, flat_map, true, Option, Result, Ok}
use Rattle.std.specs.Option.{option_and_then, option_map_or}
use Rattle.std.specs.Result.{result_unwrap_or}
use Rattle.wf_value.specs.ScalarValue.{MatrixLists}
use Rattle.wf_value.specs.declared.refusal.Refusal.{Refusal}
use Rattle.wf_reader.specs.declared.job.Job.{Job}
use Rattle.wf_reader.specs.declared.workflow.Workflow.{Workflow}
use Rattle.wf_reader.specs.Event.{event_faults, event_of}
use Rattle.wf_reader.specs.Faults.{outcome_faults}
use Rattle.matrix_expand.specs.Combinations.{Combination, combinations_or_refusal}
use Rattle.definitions.specs.Rising.{JobNeeds}
use Rattle.needs_graph.specs.Needs.{graph_of, needs_of}
use Rattle.run_plan.specs.declared.planned.PlannedJob.{PlannedJob}
use Rattle.run_plan.specs.declared.planned.PlannedLeg.{PlannedLeg}

abbrev pub matrix_of : Job → Option MatrixLists
matrix_of job = option_and_then (λ s. s.matrix) job.strategy

-- the combinations of the matrix; a job without a matrix has one leg, with the empty combination
abbrev pub combinations_where : Option MatrixLists → Result (List Combination) Refusal
combinations_where matrix = option_map_or combinations_or_refusal matrix (Ok ([] ∷ []))

-- the legs have indices from 0
abbrev pub legs_of : List Combination → List PlannedLeg
legs_of combinations = map (λ c. record { combo = c }) combinations

abbrev pub legs_of_job : Job → List PlannedLeg
legs_of_job job = legs_of (result_unwrap_or (combinations_where (matrix_of job)) [])

-- fail-fast is on if the strategy is missing
abbrev pub planned_job : Job → PlannedJob
planned_job job = record {
  id = job.id;
  labels = job.labels;
  needs = job.needs;
  condition = job.condition;
  continue_on_error = job.continue_on_error;
  concurrency = job.concurrency;
  fail_fast = option_map_or (λ s. s.fail_fast) job.strategy true;
  max_parallel = option_and_then (λ s. s.max_parallel) job.strategy;
  legs = legs_of_job job;
}

abbrev pub workflow_plan : Workflow → List PlannedJob
workflow_plan workflow = map planned_job workflow.jobs

-- ---- the graph of the jobs' needs

abbrev pub needs_of_job : Job → JobNeeds
needs_of_job job = record { id = job.id; needs = job.needs }

abbrev pub needs_of_planned : PlannedJob → JobNeeds
needs_of_planned job = record { id = job.id; needs = job.needs }

-- the needs that each job of a plan lists
abbrev pub needs_listed : List PlannedJob → List JobNeeds
needs_listed plan = map needs_of_planned plan

-- for each job of a plan, the indices of the jobs that it needs
abbrev pub plan_graph : List PlannedJob → List (List ℕ)
plan_graph plan = needs_of (needs_listed plan)

-- ---- faults

-- a matrix with too many choices (21), else with no leg or too many (22)
abbrev pub job_faults : Job → List Refusal
job_faults job = outcome_faults (combinations_where (matrix_of job))

abbrev pub legs_faults : List Job → List Refusal
legs_faults jobs = flat_map job_faults jobs

-- an unknown job (13), else a cycle (14)
abbrev pub needs_faults : List Job → List Refusal
needs_faults jobs = outcome_faults (graph_of (map needs_of_job jobs))

-- the faults of all matrices come before those of the needs
abbrev pub jobs_faults : List Job → List Refusal
jobs_faults jobs = legs_faults jobs ++ needs_faults jobs

-- the faults of a workflow's plan
abbrev pub plan_faults : Workflow → List Refusal
plan_faults workflow = jobs_faults workflow.jobs

-- the faults of a body as an event, then those of its workflow's plan
abbrev pub faults_of : List ℕ → List Refusal
faults_of body = event_faults body ++ plan_faults (event_of body).workflow

-- the plan of a body's workflow
abbrev pub plan_of : List ℕ → List PlannedJob
plan_of body = workflow_plan (event_of body).workflow
