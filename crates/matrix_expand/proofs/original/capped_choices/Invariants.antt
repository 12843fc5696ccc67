use Rattle.std.proofs.Common.{◌≡◌, ◌≤◌, ◌*◌, min, drop}
use Rattle.matrix_expand.specs.Combinations.{choice_count}
use Rattle.matrix_expand.proofs.original.capped_choices.Given as goal

-- the product of the lengths so far, times that of the remaining ones
abbrev pub invariant-loop-variable : goal.invariant-loop-variable
invariant-loop-variable l = record {
  capped : l.count ≤ 4097;
  product : min 4097 (l.count * choice_count (drop l.variable-index l.variables)) ≡ min 4097 (choice_count l.variables);
}
