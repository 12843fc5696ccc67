use Rattle.std.proofs.Common.{ap, ◌∙◌}
use Rattle.run_plan.specs.PlanOf.{plan_of, plan_graph}
use Rattle.table_model.proofs.NeedsSettled.{decided_in}
use Rattle.table_model.proofs.run.Run.may_run.Goals as goal

pub returns : goal.returns
returns c =
    let plan = c.plan.ensures ∙ ap (λ run. plan_of run.admitted.body) c.self.view_is in
    c.decide.ensures
    ∙ decided_in c.args.self.now c.args.j c.condition-condition.result c.graph-graph.result.now c.jobs.result.now c.self.inside.stopping
    c.condition-condition.ensures (c.graph-graph.ensures.needs ∙ ap plan_graph plan) c.jobs.ensures
    (ap (λ run. run.stopping) c.self.view_is)
