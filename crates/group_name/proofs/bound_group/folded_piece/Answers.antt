use Rattle.std.proofs.Common.{rules, ap, Ok}
use Rattle.group_name.proofs.BoundFolding.{piece-kept}
use Rattle.group_name.proofs.bound_group.folded_piece.Goals as goal

pub returns-clause-gives : goal.returns-clause-gives
returns-clause-gives c = ap Ok (piece-kept c.args.piece.now _ _ (search rules) (search rules) c.in_ok-folded.ensures.utf8)
