use Rattle.std.proofs.Common.{◌≡◌, ◌++◌, length, map}
use Rattle.std.specs.Vec.Iter.{into_iter_items, into_iter_len}
use Rattle.run_plan.specs.PlanOf.{legs_faults, planned_job}
use Rattle.run_plan.proofs.planning.planned_jobs.Given as goal

-- the jobs so far have no faults and are planned
abbrev pub invariant-loop-job : goal.invariant-loop-job
invariant-loop-job l = record {
  left : legs_faults l.fn.jobs ≡ legs_faults (into_iter_items l.job-iterator);
  done : l.planned.items ++ map planned_job (into_iter_items l.job-iterator) ≡ map planned_job l.fn.jobs;
  counted : into_iter_len l.job-iterator ≡ length (into_iter_items l.job-iterator);
}
