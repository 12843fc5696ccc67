use Rattle.std.proofs.Common.{◌≡◌, ℕ}
use Rattle.std.specs.Prelude.{Some, length, slice_get}
use Rattle.table_bindings.specs.KnownLabels.{kept_of_leg}
use Rattle.table_bindings.specs.declared.resolved_labels.ResolvedLabels.{ResolvedLabels}
use Rattle.table_bindings.proofs.resolved_labels.bind_each.Given as goal

-- the element for each leg so far is the one to be kept
abbrev pub invariant-loop-leg : goal.invariant-loop-leg
invariant-loop-leg l =
    (length l.legs.items ≡ l.leg)
    × ((k : ℕ) (wanted : ResolvedLabels) → slice_get l.legs.items k ≡ Some wanted → wanted ≡ kept_of_leg l.identity l.j l.job k)
