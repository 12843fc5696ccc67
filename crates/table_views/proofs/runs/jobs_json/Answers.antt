use Rattle.std.proofs.Common.{inl, inr}
use Rattle.table_views.proofs.JobsLeft.{all_there, no_jobs_left, no_plan_left}
use Rattle.table_views.proofs.runs.jobs_json.Goals as goal

pub returns : goal.returns
returns c =
    elim c.in-None.ensures.steps [
      | inl s ↦ all_there _ _ _ (no_plan_left _ _ s.1.0) c.loop-planned.invariant
      | inr s ↦ all_there _ _ _ (no_jobs_left _ _ s.1.0) c.loop-planned.invariant
    ]
