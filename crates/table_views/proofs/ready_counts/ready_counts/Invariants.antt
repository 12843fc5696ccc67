use Rattle.std.proofs.Common.{take}
use Rattle.std.specs.List.{flat_map}
use Rattle.table_model.specs.Runs.{placed, leg_sites_of_run}
use Rattle.table_views.specs.NamedCounts.{AreCounts}
use Rattle.table_views.specs.TableMetrics.{asked_at}
use Rattle.table_views.proofs.ready_counts.ready_counts.Given as goal

-- the counts of what the legs of the runs so far ask for
abbrev pub invariant-loop-r : goal.invariant-loop-r
invariant-loop-r l = AreCounts (asked_at l.runs (flat_map leg_sites_of_run (placed (take l.r l.runs)))) l.counts
