use Rattle.std.proofs.Common.{◌≡◌}
use Rattle.needs_graph.proofs.OwnIds.{own_ids_first}
use Rattle.needs_graph.proofs.graph.own_ids.Given as goal

-- the ids so far are those of the jobs so far
abbrev pub invariant-loop-index : goal.invariant-loop-index
invariant-loop-index l = l.ids.items ≡ own_ids_first l.jobs l.reached l.index
