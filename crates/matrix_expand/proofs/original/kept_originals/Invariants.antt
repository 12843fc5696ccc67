use Rattle.std.proofs.Common.{◌≡◌, ◌≤◌, ◌-◌, ◌++◌, length}
use Rattle.matrix_expand.specs.inner.Numbered.{kept_from}
use Rattle.matrix_expand.proofs.original.kept_originals.Given as goal

-- the numbers kept so far, followed by the remaining ones, are all kept numbers
abbrev pub invariant-loop-number : goal.invariant-loop-number
invariant-loop-number l = record {
  few : length l.kept.items ≤ 256;
  all : l.kept.items ++ kept_from l.excludes l.number (l.count - l.number) ≡ kept_from l.excludes 0 l.count;
}
