use Rattle.run_table.proofs.JobsText.{no_plan_left, no_jobs_left, whole_text}
use Rattle.run_table.proofs.view_text.push_jobs.Goals as goal
use Rattle.std.proofs.Common.{inl, inr}

pub returns : goal.returns
returns c =
    elim c.in-None.ensures.steps [
      | inl s ↦ whole_text _ _ _ (no_plan_left _ _ s.1.0) c.loop-planned.invariant
      | inr s ↦ whole_text _ _ _ (no_jobs_left _ _ s.1.0) c.loop-planned.invariant
    ]
