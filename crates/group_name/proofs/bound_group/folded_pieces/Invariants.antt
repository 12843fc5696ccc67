use Rattle.std.proofs.Common.{◌≡◌, take}
use Rattle.std.specs.Prelude.{map}
use Rattle.group_name.specs.BoundGroup.{AreTexts, folded_piece}
use Rattle.group_name.proofs.bound_group.folded_pieces.Given as goal

-- the pieces so far are case-folded, and the texts of all pieces so far are UTF-8
abbrev pub invariant-loop-piece : goal.invariant-loop-piece
invariant-loop-piece l = record {
  folded : l.folded.items ≡ map folded_piece (take l.piece-index l.pieces);
  texts : AreTexts l.folded.items;
  sources : AreTexts (take l.piece-index l.pieces);
}
