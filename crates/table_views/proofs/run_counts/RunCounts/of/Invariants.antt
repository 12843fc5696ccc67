use Rattle.std.proofs.Common.{◌≡◌, map, take}
use Rattle.table_views.specs.RunCounting.{run_counts, words_of}
use Rattle.table_views.proofs.run_counts.RunCounts.of.Given as goal

-- the counts of the runs so far
abbrev pub invariant-loop-run : goal.invariant-loop-run
invariant-loop-run l = l.counts ≡ run_counts (map words_of (take l.run-index l.runs))
