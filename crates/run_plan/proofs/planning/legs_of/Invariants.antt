use Rattle.std.proofs.Common.{◌≡◌, ◌++◌, length}
use Rattle.std.specs.Vec.Iter.{into_iter_items, into_iter_len}
use Rattle.run_plan.specs.PlanOf.{legs_of}
use Rattle.run_plan.proofs.planning.legs_of.Given as goal

-- the combinations so far have their legs
abbrev pub invariant-loop-combo : goal.invariant-loop-combo
invariant-loop-combo l = record {
  done : l.legs.items ++ legs_of (into_iter_items l.combo-iterator) ≡ legs_of l.fn.combos.items;
  counted : into_iter_len l.combo-iterator ≡ length (into_iter_items l.combo-iterator);
}
