use Rattle.std.proofs.Common.{◌≡◌, take}
use Rattle.table_views.specs.LegCounting.{leg_counts, leg_phases}
use Rattle.table_views.proofs.leg_counts.LegCounts.of.Given as goal

-- the counts of the legs of the runs so far
abbrev pub invariant-loop-run : goal.invariant-loop-run
invariant-loop-run l = l.counts ≡ leg_counts (leg_phases (take l.run-index l.runs))
