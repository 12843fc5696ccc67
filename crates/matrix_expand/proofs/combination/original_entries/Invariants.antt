use Rattle.std.proofs.Common.{◌≡◌, take}
use Rattle.matrix_expand.specs.inner.Entries.{object_entries}
use Rattle.matrix_expand.specs.inner.Numbered.{original_at}
use Rattle.matrix_expand.proofs.combination.original_entries.Given as goal

abbrev pub invariant-loop-axis : goal.invariant-loop-axis
invariant-loop-axis l = l.entries.items ≡ object_entries l.index (original_at (take l.axis-index l.axes) l.number)
