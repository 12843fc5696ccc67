use Rattle.wf_value.proofs.PassedOn.{passed_on}
use Rattle.wf_reader.proofs.InOrder.{first_decides}
use Rattle.wf_reader.specs.Workflow.{workflow_faults, workflow_of}
use Rattle.run_plan.specs.PlanOf.{plan_faults}
use Rattle.program_commands.proofs.Checks.{no_legs_fault, plan_checked, plan_refused}
use Rattle.program_commands.proofs.check.checked_workflow.Goals as goal

pub returns-in_err-workflow-clause-lines : goal.returns-in_err-workflow-clause-lines
returns-in_err-workflow-clause-lines c =
    let text = c.args.text.now in
    passed_on _ _ _ _ c.in_err-workflow.field-0.0 c.from_residual.ensures.1 c.in_err-workflow.ensures.gives
    (λ refused. first_decides (workflow_faults text) (plan_faults (workflow_of text)) (workflow_of text) _
    c.in_err-workflow.field-0.0 refused)

pub returns-in_err-check_plan-clause-lines : goal.returns-in_err-check_plan-clause-lines
returns-in_err-check_plan-clause-lines c =
    passed_on _ _ _ _ c.in_err-check_plan.field-0.0 c.from_residual-in_err-check_plan.ensures.1 c.in_err-check_plan.ensures
    (λ refused.
    plan_refused c.args.text.now c.in_ok-workflow.workflow _ c.in_err-check_plan.field-0.0 c.in_ok-workflow.ensures.gives refused)

pub returns-clause-lines : goal.returns-clause-lines
returns-clause-lines c =
    plan_checked c.args.text.now c.in_ok-workflow.workflow _ _ c.in_ok-workflow.ensures.gives c.in_ok-check_plan.ensures

pub returns-clause-legs : goal.returns-clause-legs
returns-clause-legs c = no_legs_fault c.in_ok-workflow.workflow _ _ c.in_ok-check_plan.ensures
