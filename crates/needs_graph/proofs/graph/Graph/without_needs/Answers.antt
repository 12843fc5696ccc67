use Rattle.std.proofs.Common.{length, ◌∙◌}
use Rattle.wf_value.proofs.PassedOn.{same_Ok}
use Rattle.needs_graph.proofs.NoNeeds.{graph_of_nothing, is_graph}
use Rattle.needs_graph.proofs.graph.Graph.without_needs.Goals as goal

pub invariant_of-result : goal.invariant_of-result
invariant_of-result c =
    is_graph (length c.args.jobs.now) c.in_ok-needs.needs _ c.in_ok-dependents.dependents (same_Ok _ _ c.in_ok-needs.ensures)
    c.no_sets.ensures (same_Ok _ _ c.in_ok-dependents.ensures)

pub returns : goal.returns
returns c = graph_of_nothing c.args.jobs.now c.requires ∙ c.in_ok-needs.ensures
