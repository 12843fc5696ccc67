-- Room for a name, whatever the results.
use Rattle.std.proofs.Common.{◌≡◌, ◌≤◌, ◌<◌, ◌+◌, ℕ, List, length, take, get_or, max, Option, None, Some, arith, sym, subst}
use Rattle.std.specs.Prelude.{sum_by}
use Rattle.std.specs.Option.{option_map_or}
use Rattle.std.proofs.Math.Nat.{le-max_left, le-max_right}
use Rattle.std.proofs.lemmas.List.Sums.{sum_by_more_le}
use Rattle.wf_value.specs.ScalarValue.{result_word}
use Rattle.wf_value.specs.declared.outcome.JobResult.{JobResult}
use Rattle.wf_value.specs.declared.outcome.JobResult.TheVariants as result
use Rattle.wf_expr.specs.Bound.{Results, bound_piece_text, first_result}
use Rattle.wf_expr.specs.declared.bound.BoundPiece.{BoundPiece}
use Rattle.group_name.specs.BoundGroup.{most_bytes_of}

-- no word of a result is longer than `cancelled`
word : (r : JobResult) → length (result_word r) ≤ 9
word result.Success = omega arith
word result.Failure = omega arith
word result.Cancelled = omega arith
word result.Skipped = omega arith

-- so no text of a piece is longer than its room
pub longest : (results : Results) (piece : BoundPiece) → length (bound_piece_text results piece) ≤ most_bytes_of piece
longest results piece = by (first_result results piece.needs)
  where
    by : (o : Option JobResult) → length (option_map_or result_word o piece.otherwise) ≤ max (length piece.otherwise) 9
    by None = le-max_left (length piece.otherwise) 9
    by (Some r) = omega (arith, word r, le-max_right (length piece.otherwise) 9)

-- the pieces so far and the next one have no more room than all
pub one_more_room : (pieces : List BoundPiece) (i : ℕ) (piece : BoundPiece) → i < length pieces → piece ≡ get_or pieces i piece
    → sum_by most_bytes_of (take i pieces) + most_bytes_of piece ≤ sum_by most_bytes_of pieces
one_more_room pieces i piece within is =
    subst (λ (p : BoundPiece). sum_by most_bytes_of (take i pieces) + most_bytes_of p ≤ sum_by most_bytes_of pieces) (sym is)
    (sum_by_more_le most_bytes_of pieces i piece within)
