-- Which jobs are skipped in the tables that commands reach from the empty one. GitHub Docs, "Workflow syntax for GitHub Actions":
-- jobs.<job_id>.needs, jobs.<job_id>.if.
use Rattle.std.specs.Prelude.{◌≡◌, ℕ, List, true, false, Some}
use Rattle.wf_value.specs.declared.outcome.JobResult.TheVariants as result
use Rattle.needs_graph.specs.Needs.{condition_value}
use Rattle.table_model.specs.Runs.{job_at, JobState, RunState}
use Rattle.table_model.specs.LegContext.{ancestor_results, condition_of, needs_have_finished}
use Rattle.table_model.specs.declared.phases.JobPhase.TheVariants as job

-- all needs of a skipped job have finished, and its condition is false for the results of its ancestors in a run that is not stopping
abbrev pub SkipsAreDue : List RunState → Type 0
SkipsAreDue runs =
    (r j : ℕ) (x : JobState) → job_at runs r j ≡ Some x → x.phase ≡ job.Finished result.Skipped
    → (needs_have_finished runs r j ≡ true) × (condition_value (condition_of runs r j) (ancestor_results runs r j) false ≡ false)
