use Rattle.std.proofs.Common.{◌≡◌, take}
use Rattle.std.specs.Prelude.{map}
use Rattle.wf_expr.specs.Bound.{bound_of}
use Rattle.table_bindings.proofs.resolved_labels.bound_labels.Given as goal

-- the bound labels so far
abbrev pub invariant-loop-label : goal.invariant-loop-label
invariant-loop-label g l =
    l.bound.items ≡ map (bound_of (g.C.Context.values l.known) (g.N.Needs.need_of l.needs)) (take l.label-index l.labels)
