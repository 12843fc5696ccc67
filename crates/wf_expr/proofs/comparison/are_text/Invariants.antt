use Rattle.std.proofs.Common.{◌≡◌, drop}
use Rattle.std.specs.List.{flat_map}
use Rattle.wf_expr.specs.Comparison.{folded}
use Rattle.wf_expr.specs.TemplateValue.{piece_text}
use Rattle.wf_expr.proofs.ComparisonLemmas.{IsLeft}
use Rattle.wf_expr.proofs.comparison.are_text.Given as goal

-- all pieces make up the text if and only if the remaining pieces make up the rest of the text
abbrev pub invariant-loop-piece : goal.invariant-loop-piece
invariant-loop-piece g l =
    IsLeft l.case (piece_text (g.C.Context.values l.context)) (drop l.piece-index l.pieces) l.rest
    (folded l.case (flat_map (piece_text (g.C.Context.values l.context)) l.pieces) ≡ folded l.case l.text)
