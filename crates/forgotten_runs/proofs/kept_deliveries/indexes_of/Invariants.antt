use Rattle.std.proofs.Common.{take}
use Rattle.forgotten_runs.specs.inner.Delivered.{FindsKept}
use Rattle.forgotten_runs.proofs.kept_deliveries.indexes_of.Given as goal

-- the deliveries before the index are found
abbrev pub invariant-loop-i : goal.invariant-loop-i
invariant-loop-i l = FindsKept (take l.i l.deliveries) l.indexes.indexes
