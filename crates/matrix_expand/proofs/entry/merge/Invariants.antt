use Rattle.std.proofs.Common.{◌≡◌, ◌≤◌, ◌+◌, ◌-◌, ◌++◌, drop, length}
use Rattle.matrix_expand.specs.inner.Entries.{merged}
use Rattle.matrix_expand.proofs.entry.merge.Given as goal

-- the merged entries so far, followed by the merge of the remaining ones, are all entries
abbrev pub invariant-loop-i : goal.invariant-loop-i
invariant-loop-i l = record {
  left_in : l.i ≤ length l.left;
  right_in : l.j ≤ length l.right;
  all : l.entries.items ++ merged (drop l.i l.left) (drop l.j l.right) ≡ merged l.left l.right;
}

abbrev pub decreases-loop-i : goal.decreases-loop-i
decreases-loop-i l = (length l.initial.left - l.i) + (length l.initial.right - l.j)
