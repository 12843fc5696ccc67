use Rattle.std.proofs.Common.{◌≡◌, take}
use Rattle.std.specs.Prelude.{string_bytes}
use Rattle.wf_expr.specs.Bound.{bound_text}
use Rattle.group_name.proofs.bound_group.text_by.Given as goal

-- the texts so far
abbrev pub invariant-loop-piece : goal.invariant-loop-piece
invariant-loop-piece g l =
    string_bytes l.text ≡ bound_text (g.R.NeedResults.result_of l.results) (take l.piece-index l.pieces)
