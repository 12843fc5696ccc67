use Rattle.std.proofs.Common.{◌≡◌, ◌++◌, drop, map}
use Rattle.std.specs.List.{enumerate_from, flat_map}
use Rattle.run_plan.specs.PlanOf.{needs_of_job}
use Rattle.workflow_lint.specs.Plans.{need_found, unknown_in}
use Rattle.workflow_lint.proofs.plan.check_needs_of.Given as goal

-- the findings so far, followed by those of the remaining ids, are all findings
abbrev pub invariant-loop-i : goal.invariant-loop-i
invariant-loop-i l =
    l.found.items ++ flat_map (need_found (map needs_of_job l.jobs) l.job.id) (enumerate_from l.i (map (λ n. n) (drop l.i l.needs)))
    ≡ l.initial.found.items ++ unknown_in (map needs_of_job l.jobs) (needs_of_job l.job)
