use Rattle.std.proofs.Common.{◌≡◌, map, take}
use Rattle.needs_graph.specs.inner.JobBitmap.{marked}
use Rattle.needs_graph.proofs.rows.all_indexes.Given as goal

abbrev pub invariant-loop-row : goal.invariant-loop-row
invariant-loop-row l = l.indexes.items ≡ map marked (take l.row-index l.rows)
