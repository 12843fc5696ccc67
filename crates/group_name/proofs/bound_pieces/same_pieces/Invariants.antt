use Rattle.std.proofs.Common.{◌≡◌, take, length}
use Rattle.group_name.proofs.bound_pieces.same_pieces.Given as goal

-- the pieces so far are equal
abbrev pub invariant-loop-x : goal.invariant-loop-x
invariant-loop-x l = take (length l.yielded) l.one ≡ take (length l.yielded) l.other
