use Rattle.std.proofs.Common.{◌≡◌, ◌++◌, drop}
use Rattle.wf_expr.specs.Bound.{referenced_needs}
use Rattle.wf_expr.proofs.bind.referenced_needs.Given as goal

-- the needs so far, followed by those of the remaining operands, are those of all operands
abbrev pub invariant-loop-operand : goal.invariant-loop-operand
invariant-loop-operand g l =
    let values = g.C.Context.values l.known.context.now in
    let need_of = g.N.Needs.need_of l.known.needs.now in
    l.referenced.items ++ referenced_needs values need_of (drop l.operand-index l.operands) ≡ referenced_needs values need_of l.operands
