use Rattle.std.proofs.Common.{◌≡◌, ◌++◌, ◌≤◌, take}
use Rattle.std.specs.Prelude.{vec_capacity}
use Rattle.std.specs.List.{flat_map, AllByRecursion}
use Rattle.command_encodings.proofs.list_writer.push_list.Given as goal

-- the values so far have been appended
abbrev pub invariant-loop-value : goal.invariant-loop-value
invariant-loop-value g l = record {
  each : AllByRecursion g.T.Push.takes (take l.value-index l.list);
  bytes : l.out.items ≡ l.initial.out.items ++ flat_map g.T.Push.encoding (take l.value-index l.list);
  room : vec_capacity l.initial.out ≤ vec_capacity l.out;
}
