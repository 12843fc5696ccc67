use Rattle.std.proofs.Common.{◌≡◌, ◌+◌, take}
use Rattle.std.specs.Prelude.{sum_by}
use Rattle.definitions.specs.Limits.{max_references}
use Rattle.wf_expr.specs.Profile.{reference_count}
use Rattle.wf_expr.proofs.profile.are_few.Given as goal

-- the references so far and the remaining allowance add up to `max_references`
abbrev pub invariant-loop-piece : goal.invariant-loop-piece
invariant-loop-piece l = sum_by reference_count (take l.piece-index l.pieces) + l.left ≡ max_references
