use Rattle.std.proofs.Common.{◌≡◌, ℕ}
use Rattle.std.specs.Prelude.{Some, length, slice_get}
use Rattle.table_bindings.specs.GroupKeys.{IsLater}
use Rattle.table_bindings.specs.declared.group_keys.HolderKey.{HolderKey}
use Rattle.table_bindings.specs.declared.groups.GroupRequest.{GroupRequest}
use Rattle.table_bindings.proofs.group_keys.LegKeys.take.Given as goal

-- memory is taken for each leg so far
abbrev pub invariant-loop-l : goal.invariant-loop-l
invariant-loop-l l =
    (length l.legs.items ≡ l.l)
    × ((k : ℕ) (key : HolderKey) → slice_get l.legs.items k ≡ Some key → (request : GroupRequest) → slice_get l.requests k ≡ Some request
    → IsLater request key)
