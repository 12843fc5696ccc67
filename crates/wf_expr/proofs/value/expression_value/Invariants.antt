use Rattle.std.proofs.Common.{◌≡◌, drop}
use Rattle.std.specs.Prelude.{map}
use Rattle.wf_expr.specs.ScalarView.{shown}
use Rattle.wf_expr.specs.TemplateValue.{first_true, operand_value, expression_value}
use Rattle.wf_expr.proofs.value.expression_value.Given as goal

-- the last value so far and the remaining operands have the value of all operands
abbrev pub invariant-loop-operand : goal.invariant-loop-operand
invariant-loop-operand g l =
    first_true (shown l.last) (map (operand_value (g.C.Context.values l.context)) (drop l.operand-index l.operands))
    ≡ expression_value (g.C.Context.values l.context) l.operands
