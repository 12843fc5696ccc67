use Rattle.std.proofs.Common.{◌≡◌, take}
use Rattle.matrix_expand.proofs.expansion.all_of.Given as goal

abbrev pub invariant-loop-leg : goal.invariant-loop-leg
invariant-loop-leg l = l.combos.items ≡ take l.leg l.expansion
