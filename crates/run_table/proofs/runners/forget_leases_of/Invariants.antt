use Rattle.std.proofs.Common.{◌≡◌, ◌++◌, drop, map, take}
use Rattle.table_model.specs.Step.{runner_through}
use Rattle.run_table.proofs.runners.forget_leases_of.Given as goal

-- the runners before the index have forgotten their leases
abbrev pub invariant-loop-i : goal.invariant-loop-i
invariant-loop-i l =
    l.runners.items ≡ map (runner_through l.through) (take l.i l.fn.runners.items) ++ drop l.i l.fn.runners.items
