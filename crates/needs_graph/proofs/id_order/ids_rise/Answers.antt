use Rattle.std.proofs.Common.{rules}
use Rattle.std.proofs.lemmas.Fn.{always_returns_same}
use Rattle.wf_value.proofs.Rising.{below, rise_told}
use Rattle.definitions.specs.Rising.{JobNeeds}
use Rattle.needs_graph.proofs.id_order.ids_rise.Goals as goal

pub returns : goal.returns
returns c =
    let id = λ (job : JobNeeds). job.id in
    rise_told id c.args.jobs.now c.is_sorted_by.result
    (c.is_sorted_by.ensures.cases (below id) (always_returns_same _ _ _ (λ a r g called. search rules)))
