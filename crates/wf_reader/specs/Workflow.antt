-- A workflow, and the body that it comes in.
use Rattle.std.specs.Prelude.{ℕ, List, length, nat_le, if◌then◌else◌, Option, None, unwrap_or, [], ◌∷◌, ◌++◌, map, codes, flat_map}
use Rattle.std.specs.Prelude.{option_map}
use Rattle.std.specs.Str.{is_utf8}
use Rattle.definitions.specs.Limits.{max_body, max_jobs}
use Rattle.serde_json.specs.Data.{Data, null}
use Rattle.serde_json.specs.Read.{read}
use Rattle.wf_value.specs.declared.code.Code.TheVariants.{NotJson, TooLong, WrongKind, TooManyJobs}
use Rattle.wf_value.specs.declared.refusal.Refusal.{Refusal}
use Rattle.wf_reader.specs.Faults.{fault, required, fault_unless, faults_in_order, optional, text_faults, faults_within}
use Rattle.serde_json.specs.Find.{get}
use Rattle.wf_expr.specs.declared.context_site.ContextSite.TheVariants as context_site
use Rattle.wf_reader.specs.Job.{concurrency_faults, concurrency_in, job_faults, job_of}
use Rattle.wf_reader.specs.Json.{text_in, members_of, member_at}
use Rattle.wf_reader.specs.declared.workflow.Workflow.{Workflow}

-- ---- the JSON value of a body, and the faults of a body without one. RFC 8259; RFC 3629 for UTF-8. The limit `max_body` is
-- defined by this project.

-- the value of the text, if it is UTF-8 and JSON
abbrev pub json_of : List ℕ → Option Data
json_of bytes = if is_utf8 bytes then read bytes else None

-- a longer body is not read; nothing inside a body without a value is checked
abbrev pub body_faults : (Data → List Refusal) → List ℕ → List Refusal
body_faults check bytes = if nat_le (length bytes) max_body then required NotJson check (json_of bytes) else fault TooLong

-- the value, or null if there is none
abbrev pub body_value : List ℕ → Data
body_value bytes = unwrap_or (json_of bytes) null

-- ---- a workflow: its faults and its value. Other members are ignored. GitHub Docs, "Workflow syntax for GitHub Actions": name,
-- concurrency, jobs.

-- 1 to `max_jobs` jobs, in the order of their ids; the upper limit is defined by this project
abbrev pub jobs_faults : List (List ℕ × Data) → List Refusal
jobs_faults [] = fault WrongKind
jobs_faults (j ∷ js) = fault_unless (nat_le (length (j ∷ js)) max_jobs) TooManyJobs ++ flat_map job_faults (j ∷ js)

abbrev pub inside_workflow : Data → List Refusal
inside_workflow d = faults_in_order (optional text_faults (get (codes "name") d)
    ∷ optional (concurrency_faults context_site.Workflow) (get (codes "concurrency") d)
    ∷ jobs_faults (members_of (member_at (codes "jobs") d)) ∷ [])

-- the faults of a value as a workflow
abbrev pub workflow_faults_in : Data → List Refusal
workflow_faults_in = faults_within inside_workflow

abbrev pub workflow_in : Data → Workflow
workflow_in d = record {
  name = text_in (member_at (codes "name") d);
  concurrency = option_map (concurrency_in context_site.Workflow) (get (codes "concurrency") d);
  jobs = map job_of (members_of (member_at (codes "jobs") d));
}

-- the faults of a body as a workflow, and its workflow if there are none
abbrev pub workflow_faults : List ℕ → List Refusal
workflow_faults bytes = body_faults workflow_faults_in bytes

abbrev pub workflow_of : List ℕ → Workflow
workflow_of bytes = workflow_in (body_value bytes)
