use Rattle.std.proofs.Common.{take}
use Rattle.needs_graph.specs.inner.Rows.{IsSets}
use Rattle.needs_graph.proofs.rows.all_sets.Given as goal

abbrev pub invariant-loop-row : goal.invariant-loop-row
invariant-loop-row l = IsSets l.sets.items (take l.row-index l.rows)
