-- The findings in the text of a workflow: the faults of `wf_reader`, in the same order, each with its path. GitHub Docs, "Workflow
-- syntax for GitHub Actions".
use Rattle.std.specs.Prelude.{ℕ, List, [], ◌∷◌, ◌++◌, is_some, if◌then◌else◌, codes, flat_map, length, nat_le}
use Rattle.std.specs.Option.{option_map_or}
use Rattle.definitions.specs.Limits.{max_body, max_jobs}
use Rattle.serde_json.specs.Data.{Data}
use Rattle.serde_json.specs.Find.{as_object}
use Rattle.wf_value.specs.declared.code.Code.TheVariants.{NotJson, TooLong, TooManyJobs, WrongKind}
use Rattle.wf_expr.specs.declared.context_site.ContextSite.TheVariants as context_site
use Rattle.wf_reader.specs.Workflow.{json_of}
use Rattle.wf_reader.specs.Faults.{fault, fault_unless}
use Rattle.wf_reader.specs.Json.{member_at, members_of}
use Rattle.workflow_lint.specs.Checks.{found_by, optional_at}
use Rattle.workflow_lint.specs.Findings.{at}
use Rattle.workflow_lint.specs.InJob.{concurrency_at, job_at}
use Rattle.workflow_lint.specs.Paths.{member_path}
use Rattle.workflow_lint.specs.declared.check.Check.TheVariants as check
use Rattle.workflow_lint.specs.declared.finding.Finding.{Finding}

-- each job, as an id and a value
abbrev pub each_job_at : List (List ℕ × Data) → List Finding
each_job_at jobs = flat_map (λ job. job_at (member_path (codes "jobs") job.0) job.0 job.1) jobs

abbrev pub jobs_at : List (List ℕ × Data) → List Finding
jobs_at [] = at (codes "jobs") (fault WrongKind)
jobs_at (j ∷ js) = at (codes "jobs") (fault_unless (nat_le (length (j ∷ js)) max_jobs) TooManyJobs) ++ each_job_at (j ∷ js)

abbrev pub inside_workflow_at : Data → List Finding
inside_workflow_at d =
    optional_at (found_by check.Text) [] (codes "name") d
    ++ optional_at (concurrency_at context_site.Workflow) [] (codes "concurrency") d
    ++ jobs_at (members_of (member_at (codes "jobs") d))

-- the whole workflow has the empty path
abbrev pub workflow_at : Data → List Finding
workflow_at d = if is_some (as_object d) then inside_workflow_at d else at [] (fault WrongKind)

abbrev pub found_in_text : List ℕ → List Finding
found_in_text bytes =
    if nat_le (length bytes) max_body then option_map_or workflow_at (json_of bytes) (at [] (fault NotJson)) else at [] (fault TooLong)
