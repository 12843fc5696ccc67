use Rattle.std.proofs.Common.{◌≡◌, ◌++◌}
use Rattle.group_book.proofs.book.Book.copy.Given as goal

abbrev pub invariant-loop-group : goal.invariant-loop-group
invariant-loop-group g l = l.slots.entries ++ l.group-iterator ≡ l.fn.self.entries
