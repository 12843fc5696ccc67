use Rattle.std.proofs.Common.{◌≡◌, take}
use Rattle.std.specs.Prelude.{sum_by}
use Rattle.table_bindings.specs.GroupKeys.{arrivals_in}
use Rattle.table_bindings.proofs.group_keys.LegKeys.arrivals.Given as goal

abbrev pub invariant-loop-key : goal.invariant-loop-key
invariant-loop-key l = l.count ≡ sum_by arrivals_in (take l.key-index l.key-items)
