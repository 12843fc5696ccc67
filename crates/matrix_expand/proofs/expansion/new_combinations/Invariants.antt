use Rattle.std.proofs.Common.{◌≡◌, ◌++◌, map, drop}
use Rattle.matrix_expand.specs.inner.Numbered.{new_objects}
use Rattle.matrix_expand.proofs.expansion.new_combinations.Given as goal

abbrev pub invariant-loop-include : goal.invariant-loop-include
invariant-loop-include l = map (λ c. c.now) l.added.items ++ new_objects (drop l.include-index l.includes) l.kept ≡ new_objects l.includes
    l.kept
