use Rattle.std.proofs.Common.{◌≡◌, map, take}
use Rattle.table_model.specs.inner.Cells.{JobCells}
use Rattle.covered_log.proofs.standings.legs_of.Given as goal

-- the legs of the jobs so far
abbrev pub invariant-loop-job : goal.invariant-loop-job
invariant-loop-job l = l.all.items ≡ map (λ (x : JobCells). x.state.legs) (take l.job-index l.jobs)
