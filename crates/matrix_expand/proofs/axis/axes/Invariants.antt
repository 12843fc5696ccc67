use Rattle.std.proofs.Common.{◌≡◌, ◌<◌, ◌++◌, drop}
use Rattle.matrix_expand.specs.Combinations.{choice_count}
use Rattle.matrix_expand.specs.inner.Numbered.{axes_of}
use Rattle.matrix_expand.proofs.axis.axes.Given as goal

-- the stride is the number of choices of the remaining variables
abbrev pub invariant-loop-variable : goal.invariant-loop-variable
invariant-loop-variable l = record {
  some : 0 < l.stride;
  choices_left : l.stride ≡ choice_count (drop l.variable-index l.variables);
  axes : l.axes.items ++ axes_of (drop l.variable-index l.variables) ≡ axes_of l.variables;
}
