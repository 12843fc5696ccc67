use Rattle.std.proofs.Common.{Ok, ap}
use Rattle.wf_value.proofs.PassedOn.{passed_on}
use Rattle.wf_reader.specs.Workflow.{inside_workflow}
use Rattle.wf_reader.proofs.InOrder.{first_decides, skip, same_value}
use Rattle.wf_reader.proofs.JobFaults.{inside_object}
use Rattle.wf_reader.proofs.WorkflowParts.{workflow_made}
use Rattle.wf_reader.proofs.workflow.workflow_in.Goals as goal

pub returns-in_err-name : goal.returns-in_err-name
returns-in_err-name c =
    passed_on _ _ _ _ _ c.from_residual.ensures.1 c.in_err-name.ensures (λ refused.
    inside_object inside_workflow _ _ _ c.if-not-is_object.ensures (first_decides _ _ _ _ _ refused))

pub returns-in_err-concurrency : goal.returns-in_err-concurrency
returns-in_err-concurrency c =
    passed_on _ _ _ _ _ c.from_residual-in_err-concurrency.ensures.1 c.in_err-concurrency.ensures (λ refused.
    inside_object inside_workflow _ _ _ c.if-not-is_object.ensures (skip _ _ _ _ _ _ c.in_ok-name.ensures
    (first_decides _ _ _ _ _ refused)))

pub returns-in_err-jobs : goal.returns-in_err-jobs
returns-in_err-jobs c =
    passed_on _ _ _ _ _ c.from_residual-in_err-jobs.ensures.1 c.in_err-jobs.ensures (λ refused.
    inside_object inside_workflow _ _ _ c.if-not-is_object.ensures (skip _ _ _ _ _ _ c.in_ok-name.ensures
    (skip _ _ _ _ _ _ c.in_ok-concurrency.ensures (first_decides _ _ _ _ _ refused))))

pub returns : goal.returns
returns c =
    inside_object inside_workflow _ _ _ c.if-not-is_object.ensures (skip _ _ _ _ _ _ c.in_ok-name.ensures
    (skip _ _ _ _ _ _ c.in_ok-concurrency.ensures (skip _ _ _ _ _ _ c.in_ok-jobs.ensures (ap Ok (workflow_made _ _ _ _ _ _
    (same_value _ _ _ c.in_ok-name.ensures) (same_value _ _ _ c.in_ok-concurrency.ensures)
    (same_value _ _ _ c.in_ok-jobs.ensures))))))
