use Rattle.std.proofs.Common.{◌≡◌, ◌++◌, map, string_bytes}
use Rattle.serde_json.specs.View.{view}
use Rattle.workflow_lint.specs.InWorkflow.{each_job_at}
use Rattle.workflow_lint.proofs.workflow.check_each_job.Given as goal

-- the findings so far, followed by those of the remaining jobs, are all findings
abbrev pub invariant-loop-id : goal.invariant-loop-id
invariant-loop-id l =
    l.found.items ++ each_job_at (map (λ e. (string_bytes e.0, view e.1)) l.id-iterator)
    ≡ l.initial.found.items ++ each_job_at (map (λ e. (string_bytes e.0, view e.1)) l.jobs.entries)
