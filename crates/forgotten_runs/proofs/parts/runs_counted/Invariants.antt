use Rattle.std.specs.List.{AllByRecursion}
use Rattle.std.proofs.Common.{◌≡◌, ◌*◌, ◌≤◌, sum_by, take}
use Rattle.definitions.specs.Limits.{last_number}
use Rattle.forgotten_runs.proofs.parts.runs_counted.Given as goal

-- the runs of the counts so far are counted, and each of these counts is of one run or more
abbrev pub invariant-loop-count : goal.invariant-loop-count
invariant-loop-count l = record {
  total : l.total ≡ sum_by (λ c. c.runs) (take l.count-index l.counts);
  most : l.total ≤ l.count-index * last_number;
  each : AllByRecursion (λ c. 1 ≤ c.runs) (take l.count-index l.counts);
}
