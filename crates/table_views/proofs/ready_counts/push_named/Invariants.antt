use Rattle.std.proofs.Common.{◌≡◌, ◌++◌, take}
use Rattle.std.specs.Prelude.{string_bytes}
use Rattle.std.specs.List.{flat_map}
use Rattle.table_views.specs.TableMetrics.{ready_value}
use Rattle.table_views.proofs.ready_counts.push_named.Given as goal

-- the lines so far
abbrev pub invariant-loop-named : goal.invariant-loop-named
invariant-loop-named l =
    string_bytes l.text ≡ string_bytes l.initial.text ++ flat_map (λ n. ready_value n.name n.count) (take l.named-index l.counts)
