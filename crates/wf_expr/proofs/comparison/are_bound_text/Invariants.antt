use Rattle.std.proofs.Common.{◌≡◌, drop}
use Rattle.wf_expr.specs.Bound.{bound_piece_text, bound_text}
use Rattle.wf_expr.specs.Comparison.{folded}
use Rattle.wf_expr.proofs.ComparisonLemmas.{IsLeft}
use Rattle.wf_expr.proofs.comparison.are_bound_text.Given as goal

-- all pieces make up the text if and only if the remaining pieces make up the rest of the text
abbrev pub invariant-loop-piece : goal.invariant-loop-piece
invariant-loop-piece g l =
    IsLeft l.case (bound_piece_text (g.R.NeedResults.result_of l.results)) (drop l.piece-index l.pieces) l.left
    (folded l.case (bound_text (g.R.NeedResults.result_of l.results) l.pieces) ≡ folded l.case l.text)
