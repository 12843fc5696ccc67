use Rattle.std.proofs.Common.{◌≡◌, take}
use Rattle.needs_graph.specs.inner.JobBitmap.{marked}
use Rattle.needs_graph.proofs.marks.marked_indexes.Given as goal

-- the indices so far are those of the marks so far
abbrev pub invariant-loop-job : goal.invariant-loop-job
invariant-loop-job l = l.indexes.items ≡ marked (take l.job l.first)
