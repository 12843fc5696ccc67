use Rattle.std.proofs.Common.{◌≡◌, map, take}
use Rattle.matrix_expand.specs.inner.Numbered.{pattern_of}
use Rattle.matrix_expand.proofs.pattern.patterns.Given as goal

abbrev pub invariant-loop-object : goal.invariant-loop-object
invariant-loop-object l = l.patterns.items ≡ map (pattern_of l.axes) (take l.object-index l.objects)
