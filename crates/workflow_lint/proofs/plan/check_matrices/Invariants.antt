use Rattle.std.proofs.Common.{◌≡◌, ◌++◌, take}
use Rattle.workflow_lint.specs.Plans.{matrices_found}
use Rattle.workflow_lint.proofs.plan.check_matrices.Given as goal

-- the findings in the matrices so far
abbrev pub invariant-loop-job : goal.invariant-loop-job
invariant-loop-job l = l.found.items ≡ l.initial.found.items ++ matrices_found (take l.job-index l.jobs)
