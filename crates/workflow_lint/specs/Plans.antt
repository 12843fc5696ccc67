-- The findings in the plan of a workflow without faults of its own, and all findings of a workflow. This is defined by this
-- project.
use Rattle.std.specs.Prelude.{ℕ, List, [], ◌∷◌, ◌++◌, codes, flat_map, map, if◌then◌else◌, Option, Some, None}
use Rattle.std.specs.List.{enumerate_from}
use Rattle.wf_value.specs.declared.refusal.Refusal.{Refusal}
use Rattle.wf_reader.specs.declared.job.Job.{Job}
use Rattle.wf_reader.specs.Faults.{outcome_faults}
use Rattle.wf_reader.specs.Workflow.{workflow_of}
use Rattle.definitions.specs.Rising.{JobNeeds}
use Rattle.needs_graph.specs.Needs.{graph_of, is_job, unknown_need}
use Rattle.run_plan.specs.PlanOf.{job_faults, needs_of_job}
use Rattle.workflow_lint.specs.Findings.{at}
use Rattle.workflow_lint.specs.InWorkflow.{found_in_text}
use Rattle.workflow_lint.specs.Paths.{item_path, member_path}
use Rattle.workflow_lint.specs.declared.finding.Finding.{Finding}

-- the path of a job's member
abbrev pub path_in_job : List ℕ → List ℕ → List ℕ
path_in_job id name = member_path (member_path (codes "jobs") id) name

-- ---- matrices: too many choices, else no leg or too many legs

abbrev pub matrix_found : Job → List Finding
matrix_found job = at (member_path (path_in_job job.id (codes "strategy")) (codes "matrix")) (job_faults job)

abbrev pub matrices_found : List Job → List Finding
matrices_found jobs = flat_map matrix_found jobs

-- ---- needs: each unknown id, or, if all are known, a cycle

-- a single text counts as a list of one
abbrev pub need_found : List JobNeeds → List ℕ → ℕ × List ℕ → List Finding
need_found jobs id need =
    if is_job jobs need.1 then [] else at (item_path (path_in_job id (codes "needs")) need.0) (unknown_need ∷ [])

abbrev pub unknown_in : List JobNeeds → JobNeeds → List Finding
unknown_in jobs job = flat_map (need_found jobs job.id) (enumerate_from 0 job.needs)

abbrev pub unknown_found : List JobNeeds → List Finding
unknown_found jobs = flat_map (unknown_in jobs) jobs

abbrev pub or_else : List Finding → List Finding → List Finding
or_else [] later = later
or_else (f ∷ fs) later = f ∷ fs

abbrev pub needs_found : List JobNeeds → List Finding
needs_found jobs = or_else (unknown_found jobs) (at (codes "jobs") (outcome_faults (graph_of jobs)))

-- ---- all findings

abbrev pub plan_found : List Job → List Finding
plan_found jobs = matrices_found jobs ++ needs_found (map needs_of_job jobs)

-- a plan is checked only if the workflow itself has no faults
abbrev pub found_in : List ℕ → List Finding
found_in bytes = or_else (found_in_text bytes) (plan_found (workflow_of bytes).jobs)

-- the first fault, if any
abbrev pub first_of : List Refusal → Option Refusal
first_of [] = None
first_of (f ∷ fs) = Some f
