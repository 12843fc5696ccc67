use Rattle.std.proofs.Common.{◌≡◌, take}
use Rattle.std.specs.Prelude.{string_bytes}
use Rattle.std.specs.List.{flat_map}
use Rattle.wf_expr.specs.TemplateValue.{piece_text}
use Rattle.wf_expr.proofs.value.joined.Given as goal

-- the pieces so far are joined
abbrev pub invariant-loop-piece : goal.invariant-loop-piece
invariant-loop-piece g l =
    string_bytes l.text ≡ flat_map (piece_text (g.C.Context.values l.context)) (take l.piece-index l.pieces)
