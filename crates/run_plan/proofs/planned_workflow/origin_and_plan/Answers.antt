use Rattle.std.proofs.Common.{Ok, ap, sym, subst}
use Rattle.wf_value.proofs.PassedOn.{passed_on}
use Rattle.wf_reader.specs.Event.{event_faults, event_of}
use Rattle.run_plan.specs.PlanOf.{plan_faults}
use Rattle.run_plan.specs.inner.PlannedWorkflows.{IsOrigin}
use Rattle.wf_reader.proofs.InOrder.{first_decides, same_value}
use Rattle.run_plan.proofs.Prepares.{refused_run, faultless_run, plan_of_run}
use Rattle.run_plan.proofs.planned_workflow.origin_and_plan.Goals as goal

pub returns-in_err-read-clause-gives : goal.returns-in_err-read-clause-gives
returns-in_err-read-clause-gives c =
    let body = c.args.body.now in
    passed_on _ _ _ _ c.in_err-read.field-0.0 c.from_residual.ensures.1 c.in_err-read.ensures.gives
    (λ refused. first_decides (event_faults body) (plan_faults (event_of body).workflow) (event_of body) _ c.in_err-read.field-0.0 refused)

pub returns-in_err-plan-clause-gives : goal.returns-in_err-plan-clause-gives
returns-in_err-plan-clause-gives c =
    passed_on _ _ _ _ c.in_err-plan.field-0.0 c.from_residual-in_err-plan.ensures.1 c.in_err-plan.ensures
    (λ refused. refused_run c.args.body.now c.in_ok-read.read _ c.in_err-plan.field-0.0 c.in_ok-read.ensures.gives
    (rw c.origin_and_jobs-origin.ensures.jobs at refused))

pub returns-clause-gives : goal.returns-clause-gives
returns-clause-gives c =
    let body = c.args.body.now in
    let planned = rw c.origin_and_jobs-origin.ensures.jobs at c.in_ok-plan.ensures in
    rw (faultless_run body c.in_ok-read.read _ c.in_ok-read.ensures.gives planned)
    (ap Ok (sym (plan_of_run body c.in_ok-read.read _ c.in_ok-read.ensures.gives planned)))

pub returns-clause-origin : goal.returns-clause-origin
returns-clause-origin c =
    let body = c.args.body.now in
    subst (IsOrigin _) (sym (same_value (event_faults body) (event_of body) c.in_ok-read.read c.in_ok-read.ensures.gives))
    c.origin_and_jobs-origin.ensures.origin
