use Rattle.std.proofs.Common.{◌≡◌, take, length}
use Rattle.table_bindings.proofs.same.same_templates.Given as goal

-- the templates so far are equal
abbrev pub invariant-loop-x : goal.invariant-loop-x
invariant-loop-x l = take (length l.yielded) l.one ≡ take (length l.yielded) l.other
