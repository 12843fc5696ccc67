use Rattle.std.proofs.Common.{◌≡◌, [], replicate}
use Rattle.needs_graph.proofs.rows.no_indexes.Given as goal

abbrev pub invariant-loop : goal.invariant-loop
invariant-loop l = l.indexes.items ≡ replicate l.counter []
