use Rattle.std.proofs.Common.{◌≡◌, ◌++◌, map, take, drop}
use Rattle.service_metrics.specs.CommitTimes.{with_commit}
use Rattle.service_metrics.proofs.commit_times.add_commit.Given as goal

-- the commit is counted in the buckets so far, and the others are unchanged
abbrev pub invariant-loop-bucket : goal.invariant-loop-bucket
invariant-loop-bucket l =
    l.buckets ≡ map (with_commit l.nanos) (take l.bucket-index l.initial.buckets) ++ drop l.bucket-index l.initial.buckets
