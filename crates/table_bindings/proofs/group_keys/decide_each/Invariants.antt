use Rattle.std.proofs.Common.{◌≡◌, ◌++◌, map, take, drop}
use Rattle.table_bindings.specs.GroupKeys.{decided}
use Rattle.table_bindings.proofs.group_keys.decide_each.Given as goal

-- the legs before the index are decided
abbrev pub invariant-loop-l : goal.invariant-loop-l
invariant-loop-l g l = l.keys ≡ map (decided (g.R.NeedResults.result_of l.results)) (take l.l l.requests) ++ drop l.l l.fn.keys
