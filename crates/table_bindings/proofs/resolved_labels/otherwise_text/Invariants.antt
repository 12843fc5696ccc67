use Rattle.std.proofs.Common.{◌≡◌, take}
use Rattle.std.specs.Prelude.{string_bytes}
use Rattle.std.specs.List.{flat_map}
use Rattle.wf_expr.specs.declared.bound.BoundPiece.{BoundPiece}
use Rattle.table_bindings.proofs.resolved_labels.otherwise_text.Given as goal

-- the text so far joins the pieces so far
abbrev pub invariant-loop-piece : goal.invariant-loop-piece
invariant-loop-piece l = string_bytes l.text ≡ flat_map (λ (piece : BoundPiece). piece.otherwise) (take l.piece-index l.pieces)
