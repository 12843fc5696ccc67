use Rattle.std.proofs.Common.{◌≡◌, ◌++◌, ◌||◌, drop}
use Rattle.matrix_expand.specs.inner.Numbered.{wanted_of, has_other}
use Rattle.matrix_expand.proofs.pattern.Pattern.new.Given as goal

-- the pairs so far, followed by the remaining ones, are all pairs
abbrev pub invariant-loop-name : goal.invariant-loop-name
invariant-loop-name l = record {
  wanted : l.wanted.items ++ wanted_of l.axes (drop l.name-index l.name-items) ≡ wanted_of l.axes l.name-items;
  others : (l.has_other || has_other l.axes (drop l.name-index l.name-items)) ≡ has_other l.axes l.name-items;
}
