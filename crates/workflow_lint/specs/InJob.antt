-- The findings in a job. GitHub Docs, "Workflow syntax for GitHub Actions": jobs.<job_id>.
use Rattle.std.specs.Prelude.{ℕ, List, [], ◌∷◌, ◌++◌, is_some, if◌then◌else◌, codes, unwrap_or}
use Rattle.std.specs.Option.{option_map_or}
use Rattle.serde_json.specs.Data.{Data}
use Rattle.serde_json.specs.Find.{as_array, as_object, as_str, get}
use Rattle.wf_value.specs.declared.code.Code.TheVariants.{JobId, NoLabels, WrongKind}
use Rattle.wf_expr.specs.declared.context_site.ContextSite.{ContextSite}
use Rattle.wf_expr.specs.declared.context_site.ContextSite.TheVariants as context_site
use Rattle.wf_reader.specs.Job.{group_text, is_concurrency, is_job_id, labels_faults, template_faults}
use Rattle.wf_reader.specs.Faults.{fault, fault_unless, text_faults}
use Rattle.wf_reader.specs.Strategy.{items_of}
use Rattle.workflow_lint.specs.Checks.{found_by, items_at, optional_at}
use Rattle.workflow_lint.specs.Findings.{at}
use Rattle.workflow_lint.specs.InMatrix.{strategy_at}
use Rattle.workflow_lint.specs.Paths.{member_path}
use Rattle.workflow_lint.specs.declared.check.Check.TheVariants as check
use Rattle.workflow_lint.specs.declared.finding.Finding.{Finding}

-- ---- runs-on and needs: a text, or a list of texts

-- the labels of a non-empty list, each separately
abbrev pub labels_in_list : List ℕ → Data → List Data → List Finding
labels_in_list path d [] = at path (labels_faults d)
labels_in_list path d (label ∷ labels) = items_at (found_by check.Label) path (label ∷ labels)

abbrev pub labels_at : List ℕ → Data → List Finding
labels_at path d = labels_in_list path d (items_of d)

abbrev pub needs_at : List ℕ → Data → List Finding
needs_at path d = if is_some (as_array d) then items_at (found_by check.Text) path (items_of d) else at path (text_faults d)

-- ---- concurrency

-- the path of the text that names the group
abbrev pub group_path : List ℕ → Data → List ℕ
group_path path d = if is_some (as_str d) then path else member_path path (codes "group")

abbrev pub concurrency_at : ContextSite → List ℕ → Data → List Finding
concurrency_at site path d =
    at path (fault_unless (is_concurrency d) WrongKind)
    ++ at (group_path path d) (template_faults site (unwrap_or (group_text d) []))
    ++ optional_at (found_by (check.Flag site)) path (codes "cancel-in-progress") d

-- ---- the job

abbrev pub runs_on_at : List ℕ → Data → List Finding
runs_on_at path d = option_map_or (labels_at (member_path path (codes "runs-on"))) (get (codes "runs-on") d) (at path (fault NoLabels))

abbrev pub start_at : List ℕ → Data → List Finding
start_at path d =
    runs_on_at path d ++ optional_at needs_at path (codes "needs") d ++ optional_at (found_by check.Condition) path (codes "if") d

abbrev pub legs_at : List ℕ → Data → List Finding
legs_at path d =
    optional_at (found_by (check.Flag context_site.Job)) path (codes "continue-on-error") d
    ++ optional_at (concurrency_at context_site.Job) path (codes "concurrency") d ++ optional_at strategy_at path (codes "strategy") d

abbrev pub inside_job_at : List ℕ → Data → List Finding
inside_job_at path d = optional_at (found_by check.LeftOut) path (codes "uses") d ++ start_at path d ++ legs_at path d

-- a job is an id and a value
abbrev pub job_at : List ℕ → List ℕ → Data → List Finding
job_at path id d =
    at path (fault_unless (is_job_id id) JobId) ++ (if is_some (as_object d) then inside_job_at path d else at path (fault WrongKind))
