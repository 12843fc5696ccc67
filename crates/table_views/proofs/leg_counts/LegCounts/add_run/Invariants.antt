use Rattle.std.proofs.Common.{◌≡◌, ◌++◌, List, take}
use Rattle.std.specs.List.{flat_map}
use Rattle.table_model.specs.declared.phases.LegPhase.{LegPhase}
use Rattle.table_views.specs.LegCounting.{leg_counts, phases_of}
use Rattle.table_views.proofs.leg_counts.LegCounts.add_run.Given as goal

-- the counts of the legs before, and of those of the jobs so far
abbrev pub invariant-loop-job : goal.invariant-loop-job
invariant-loop-job l =
    (legs : List LegPhase) → l.initial.self ≡ leg_counts legs
    → l.self ≡ leg_counts (legs ++ flat_map (λ job. phases_of job.state) (take l.job-index l.jobs))
