use Rattle.std.proofs.Common.{◌≡◌, ◌+◌, sum_by, take}
use Rattle.table_model.specs.Forgotten.{counted}
use Rattle.forgotten_runs.proofs.workflow_counts.WorkflowCounts.with.Given as goal

-- the runs so far are counted
abbrev pub invariant-loop-run : goal.invariant-loop-run
invariant-loop-run l = record {
  counts : l.counts ≡ counted l.self (take l.run-index l.runs);
  sum : sum_by (λ c. c.runs) l.counts ≡ sum_by (λ c. c.runs) l.self + l.run-index;
}
