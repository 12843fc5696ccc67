use Rattle.std.proofs.Common.{◌≡◌, take, length}
use Rattle.run_plan.proofs.same_templates.same_operands.Given as goal

-- the values so far are equal
abbrev pub invariant-loop-x : goal.invariant-loop-x
invariant-loop-x l = take (length l.yielded) l.one ≡ take (length l.yielded) l.other
