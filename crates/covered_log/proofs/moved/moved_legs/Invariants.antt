use Rattle.std.proofs.Common.{◌≡◌, ℕ, take}
use Rattle.std.specs.List.{flat_map}
use Rattle.table_model.specs.Runs.{JobState, placed}
use Rattle.table_model.specs.inner.Cells.{states}
use Rattle.covered_log.specs.Standings.{job_site, moved_of_job}
use Rattle.covered_log.proofs.moved.moved_legs.Given as goal

-- those of the jobs so far
abbrev pub invariant-loop-j : goal.invariant-loop-j
invariant-loop-j l =
    l.moved.items
    ≡ flat_map (λ (x : ℕ × JobState). moved_of_job l.look.names.now l.look.table.now l.told l.run (job_site l.r x.0) x.1.legs)
    (placed (take l.j (states l.jobs)))
