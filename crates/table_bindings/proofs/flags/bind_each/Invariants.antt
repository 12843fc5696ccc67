use Rattle.std.proofs.Common.{◌≡◌}
use Rattle.std.specs.Prelude.{length}
use Rattle.table_bindings.specs.BoundFlags.{EachSays}
use Rattle.table_bindings.proofs.flags.bind_each.Given as goal

-- each flag so far has the value of the flag for its leg
abbrev pub invariant-loop-leg : goal.invariant-loop-leg
invariant-loop-leg l = (length l.flags.items ≡ l.leg) × EachSays l.identity l.j l.job l.flags.items
