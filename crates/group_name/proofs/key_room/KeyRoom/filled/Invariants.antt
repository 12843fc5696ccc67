use Rattle.std.proofs.Common.{◌≡◌, ◌≤◌, take}
use Rattle.std.specs.Prelude.{string_bytes, string_capacity, string_len, sum_by}
use Rattle.wf_expr.specs.Bound.{bound_text}
use Rattle.group_name.specs.BoundGroup.{most_bytes, most_bytes_of}
use Rattle.group_name.proofs.key_room.KeyRoom.filled.Given as goal

-- the texts so far, and their room
abbrev pub invariant-loop-piece : goal.invariant-loop-piece
invariant-loop-piece g l =
    (string_bytes l.name ≡ bound_text (g.R.NeedResults.result_of l.results) (take l.piece-index l.pieces))
    × (string_len l.name ≤ sum_by most_bytes_of (take l.piece-index l.pieces))
    × (most_bytes l.pieces ≤ string_capacity l.name)
