use Rattle.std.proofs.Common.{◌++◌, ℕ, List, take}
use Rattle.table_views.specs.NamedCounts.{AreCounts}
use Rattle.table_views.specs.TableMetrics.{asked_at}
use Rattle.table_views.proofs.ready_counts.count_legs.Given as goal

-- the counts of the lists before, and of those of the legs so far
abbrev pub invariant-loop-site : goal.invariant-loop-site
invariant-loop-site l =
    (lists : List (List ℕ)) → AreCounts lists l.initial.counts → AreCounts (lists ++ asked_at l.runs (take l.site-index l.sites)) l.counts
