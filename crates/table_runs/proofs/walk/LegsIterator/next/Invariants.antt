use Rattle.std.proofs.Common.{◌≡◌, ◌+◌, length}
use Rattle.std.specs.Prelude.{sum_by}
use Rattle.table_model.specs.inner.PlacedLegs.{Fits, to_come}
use Rattle.table_model.specs.Runs.{RunState}
use Rattle.table_runs.proofs.walk.LegsIterator.next.Given as goal

-- no leg was skipped
abbrev pub invariant-loop-job : goal.invariant-loop-job
invariant-loop-job l =
    let w = l.self-inside in
    Fits w.at.leg w.legs.now × Fits w.job w.jobs.now × Fits w.run w.runs.now
    × (to_come w.at w.legs.now w.job w.jobs.now w.run w.runs.now ≡ l.fn.self)

-- the remaining jobs of this run, and the remaining runs with their jobs
abbrev pub decreases-loop-job : goal.decreases-loop-job
decreases-loop-job l = sum_by (λ (run : RunState). length run.jobs + 1) l.self-inside.runs.now + length l.self-inside.jobs.now
