use Rattle.std.proofs.Common.{◌≡◌, take}
use Rattle.std.specs.Prelude.{sum_by}
use Rattle.group_name.specs.BoundGroup.{most_bytes_of}
use Rattle.group_name.proofs.key_room.most_bytes.Given as goal

abbrev pub invariant-loop-piece : goal.invariant-loop-piece
invariant-loop-piece l = l.most ≡ sum_by most_bytes_of (take l.piece-index l.pieces)
