use Rattle.std.proofs.Common.{sym}
use Rattle.wf_value.proofs.PassedOn.{passed_on}
use Rattle.wf_reader.proofs.InOrder.{same_value}
use Rattle.run_plan.specs.PlanOf.{faults_of, plan_of}
use Rattle.run_plan.proofs.planned_workflow.contexts_and_workflow.Goals as goal

pub returns-in_err-origin-clause-gives : goal.returns-in_err-origin-clause-gives
returns-in_err-origin-clause-gives c =
    passed_on _ _ _ _ c.in_err-origin.field-0.0 c.from_residual.ensures.1 c.in_err-origin.ensures.gives (λ refused. refused)

pub returns-clause-planned : goal.returns-clause-planned
returns-clause-planned c =
    let body = c.args.body.now in
    let from = c.in_ok-origin.ensures.origin in
    (from.0, from.1, from.3, from.4, sym (same_value (faults_of body) (plan_of body) _ c.in_ok-origin.ensures.gives))
