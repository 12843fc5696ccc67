use Rattle.std.proofs.Common.{◌≡◌, drop}
use Rattle.wf_expr.specs.Bound.{first_result}
use Rattle.wf_expr.proofs.bound.first_result.Given as goal

-- the needs so far have no result
abbrev pub invariant-loop-need : goal.invariant-loop-need
invariant-loop-need g l =
    first_result (g.R.NeedResults.result_of l.results) l.needs
    ≡ first_result (g.R.NeedResults.result_of l.results) (drop l.need-index l.needs)
