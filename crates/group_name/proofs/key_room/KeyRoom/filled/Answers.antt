use Rattle.std.proofs.Common.{◌≤◌, length, sym, subst, arith}
use Rattle.group_name.specs.BoundGroup.{most_bytes_of}
use Rattle.group_name.proofs.Folding.{text_of_string}
use Rattle.group_name.proofs.KeyRooms.{longest, one_more_room}
use Rattle.group_name.proofs.key_room.KeyRoom.filled.Goals as goal

pub push_within-requires : goal.push_within-requires
push_within-requires g c =
    let piece = c.piece-item.result in
    let short = subst (λ text. length text ≤ most_bytes_of piece) (sym c.text.ensures)
    (longest (g.R.NeedResults.result_of c.args.results.now) piece) in
    omega (
      arith,
      short,
      one_more_room c.args.pieces.now c.loop-piece.piece-index piece (omega arith) c.piece-item.is,
      c.loop-piece.invariant.1,
      c.loop-piece.invariant.2,
    )

pub of_folded-requires : goal.of_folded-requires
of_folded-requires g c = text_of_string c.loop-piece.name c.new.result c.new.ensures
