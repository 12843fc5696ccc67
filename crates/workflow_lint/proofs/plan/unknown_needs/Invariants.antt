use Rattle.std.proofs.Common.{◌≡◌, flat_map, map, take}
use Rattle.run_plan.specs.PlanOf.{needs_of_job}
use Rattle.workflow_lint.specs.Plans.{unknown_in}
use Rattle.workflow_lint.proofs.plan.unknown_needs.Given as goal

-- the findings in the needs of the jobs so far
abbrev pub invariant-loop-job : goal.invariant-loop-job
invariant-loop-job l = l.found.items ≡ flat_map (λ job. unknown_in (map needs_of_job l.jobs) (needs_of_job job)) (take l.job-index l.jobs)
