use Rattle.std.proofs.Common.{◌≡◌, ◌++◌, take}
use Rattle.std.specs.Prelude.{string_bytes}
use Rattle.std.specs.List.{flat_map}
use Rattle.service_metrics.specs.CommitTimes.{line_of}
use Rattle.service_metrics.proofs.commit_times.push_buckets.Given as goal

-- the lines so far
abbrev pub invariant-loop-bucket : goal.invariant-loop-bucket
invariant-loop-bucket l =
    string_bytes l.text ≡ string_bytes l.initial.text ++ flat_map line_of (take l.bucket-index l.buckets)
