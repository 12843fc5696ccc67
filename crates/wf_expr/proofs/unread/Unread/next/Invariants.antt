use Rattle.std.proofs.Common.{◌≡◌, ◌++◌, length}
use Rattle.wf_expr.specs.Bound.{bound_text}
use Rattle.wf_expr.proofs.unread.Unread.next.Given as goal

-- the unread bytes stay the same
abbrev pub invariant-loop-self : goal.invariant-loop-self
invariant-loop-self g l =
    l.self-inside.text.now ++ bound_text (g.R.NeedResults.result_of l.self-inside.results.now) l.self-inside.pieces.now ≡ l.fn.self

abbrev pub decreases-loop-self : goal.decreases-loop-self
decreases-loop-self g l = length l.self-inside.pieces.now
