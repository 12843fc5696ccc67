use Rattle.std.proofs.Common.{◌≡◌, take}
use Rattle.matrix_expand.specs.inner.Entries.{object_entries}
use Rattle.matrix_expand.proofs.entry.entries_of.Given as goal

abbrev pub invariant-loop-name : goal.invariant-loop-name
invariant-loop-name l = l.entries.items ≡ object_entries l.index (take l.name-index l.pairs)
