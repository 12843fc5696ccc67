use Rattle.std.proofs.Common.{◌≡◌, map, take}
use Rattle.matrix_expand.specs.inner.Numbered.{pattern_agrees}
use Rattle.matrix_expand.proofs.combination.flags.Given as goal

abbrev pub invariant-loop-pattern : goal.invariant-loop-pattern
invariant-loop-pattern l = l.flags.items ≡ map (pattern_agrees l.number) (take l.pattern-index l.patterns)
