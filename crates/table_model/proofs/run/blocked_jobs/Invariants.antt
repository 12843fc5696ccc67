use Rattle.std.proofs.Common.{◌≡◌, take}
use Rattle.std.specs.Prelude.{map}
use Rattle.table_model.specs.inner.Cells.{blocked_cells}
use Rattle.table_model.proofs.run.blocked_jobs.Given as goal

-- one blocked job for each job of the plan so far
abbrev pub invariant-loop-planned : goal.invariant-loop-planned
invariant-loop-planned l = l.jobs.items ≡ map blocked_cells (take l.planned-index l.plan)
