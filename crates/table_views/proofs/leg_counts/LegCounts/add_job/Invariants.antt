use Rattle.std.proofs.Common.{◌≡◌, ◌++◌, List, map, take}
use Rattle.table_model.specs.declared.phases.LegPhase.{LegPhase}
use Rattle.table_views.specs.LegCounting.{leg_counts}
use Rattle.table_views.proofs.leg_counts.LegCounts.add_job.Given as goal

-- the counts of the legs before, and of those so far
abbrev pub invariant-loop-leg : goal.invariant-loop-leg
invariant-loop-leg l =
    (legs : List LegPhase) → l.initial.self ≡ leg_counts legs → l.self ≡ leg_counts (legs ++ map (λ leg. leg.phase) (take l.leg-index l.legs))
