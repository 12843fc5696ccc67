use Rattle.std.proofs.Common.{◌≡◌, ◌++◌}
use Rattle.label_lists.proofs.known_lists.copy_of.Given as goal

abbrev pub invariant-loop-list : goal.invariant-loop-list
invariant-loop-list l = l.copy.keys ++ l.list-iterator ≡ l.fn.lists.keys
