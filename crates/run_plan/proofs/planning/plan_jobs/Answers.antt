use Rattle.std.proofs.Common.{Ok, map, sym, ap, ◌∙◌}
use Rattle.wf_value.proofs.PassedOn.{passed_on}
use Rattle.wf_reader.proofs.InOrder.{first_decides, same_value}
use Rattle.needs_graph.specs.Needs.{graph_of}
use Rattle.run_plan.specs.PlanOf.{legs_faults, needs_faults, needs_of_job, planned_job}
use Rattle.run_plan.proofs.Jobs.{given_by, refused_by}
use Rattle.run_plan.proofs.NeedsOfPlans.{needs_decide, planned_needs}
use Rattle.run_plan.proofs.planning.plan_jobs.Goals as goal

pub returns-in_err-planned : goal.returns-in_err-planned
returns-in_err-planned c =
    passed_on _ _ _ _ c.in_err-planned.field-0.0 c.from_residual.ensures.1 c.in_err-planned.ensures
    (λ refused. first_decides (legs_faults c.args.jobs) (needs_faults c.args.jobs) _ _ c.in_err-planned.field-0.0 refused)

pub returns-in_err-graph : goal.returns-in_err-graph
returns-in_err-graph c =
    let jobs = c.args.jobs in
    passed_on _ _ _ _ c.in_err-graph.field-0.0 c.from_residual-in_err-graph.ensures.1
    (rw c.as_slice.ensures.jobs at c.in_err-graph.ensures)
    (λ refused. needs_decide jobs (map planned_job jobs) c.in_ok-planned.planned (map planned_job jobs) c.in_ok-planned.ensures
    ∙ refused_by (graph_of (map needs_of_job jobs)) (map planned_job jobs) c.in_err-graph.field-0.0 refused)

pub new-requires : goal.new-requires
new-requires c =
    ap graph_of (planned_needs c.args.jobs c.in_ok-planned.planned c.in_ok-planned.ensures)
    ∙ (rw c.as_slice.ensures.jobs at c.in_ok-graph.ensures)

pub returns : goal.returns
returns c =
    let jobs = c.args.jobs in
    needs_decide jobs (map planned_job jobs) c.in_ok-planned.planned (map planned_job jobs) c.in_ok-planned.ensures
    ∙ given_by (graph_of (map needs_of_job jobs)) c.in_ok-graph.field-0 (map planned_job jobs)
    (rw c.as_slice.ensures.jobs at c.in_ok-graph.ensures)
    ∙ ap Ok (same_value (legs_faults jobs) (map planned_job jobs) c.in_ok-planned.planned c.in_ok-planned.ensures ∙ sym c.new.ensures)
