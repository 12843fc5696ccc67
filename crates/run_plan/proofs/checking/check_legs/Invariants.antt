use Rattle.std.proofs.Common.{◌≡◌, drop}
use Rattle.run_plan.specs.PlanOf.{legs_faults}
use Rattle.run_plan.proofs.checking.check_legs.Given as goal

-- the jobs so far have no faults
abbrev pub invariant-loop-job : goal.invariant-loop-job
invariant-loop-job l = legs_faults l.jobs ≡ legs_faults (drop l.job-index l.jobs)
