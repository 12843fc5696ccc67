use Rattle.std.proofs.Common.{◌≡◌, ◌++◌, map, take, drop}
use Rattle.needs_graph.specs.inner.JobBitmap.{through}
use Rattle.needs_graph.proofs.rows.lead_all_through.Given as goal

-- the rows so far pass through the job, and the others are unchanged
abbrev pub invariant-loop-row : goal.invariant-loop-row
invariant-loop-row l = l.rows ≡ map (through l.job l.others) (take l.row-index l.initial.rows) ++ drop l.row-index l.initial.rows
