use Rattle.std.proofs.Common.{◌≡◌, ◌+◌, take}
use Rattle.std.specs.Prelude.{sum_by}
use Rattle.table_bindings.specs.GroupKeys.{arrivals_in, arrivals_of_legs}
use Rattle.table_bindings.proofs.group_keys.GroupKeys.arrivals.Given as goal

abbrev pub invariant-loop-legs : goal.invariant-loop-legs
invariant-loop-legs l = l.count ≡ arrivals_in l.self.own + sum_by arrivals_of_legs (take l.legs-index l.legs-items)
