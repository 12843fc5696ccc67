use Rattle.std.proofs.Common.{◌≡◌, ◌↔◌, length}
use Rattle.wf_expr.proofs.unread.are_same.Given as goal

-- the bytes so far are equal
abbrev pub invariant-loop-byte : goal.invariant-loop-byte
invariant-loop-byte g l = (l.one ≡ l.other) ↔ (l.fn.one ≡ l.fn.other)

abbrev pub decreases-loop-byte : goal.decreases-loop-byte
decreases-loop-byte g l = length l.one
