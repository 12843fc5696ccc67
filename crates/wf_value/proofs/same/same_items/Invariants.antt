use Rattle.std.proofs.Common.{◌≡◌, take, length}
use Rattle.wf_value.proofs.same.same_items.Given as goal

-- the values so far are equal
abbrev pub invariant-loop-x : goal.invariant-loop-x
invariant-loop-x g l = take (length l.yielded) l.one ≡ take (length l.yielded) l.other
