use Rattle.std.proofs.Common.{◌≡◌, take}
use Rattle.wf_expr.specs.Bound.{bound_of}
use Rattle.wf_expr.proofs.bind.bound_pieces.Given as goal

-- the pieces so far are bound
abbrev pub invariant-loop-piece : goal.invariant-loop-piece
invariant-loop-piece g l =
    l.bound.items ≡ bound_of (g.C.Context.values l.known.context.now) (g.N.Needs.need_of l.known.needs.now) (take l.piece-index l.pieces)
