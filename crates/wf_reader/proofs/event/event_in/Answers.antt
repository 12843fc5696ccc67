use Rattle.std.proofs.Common.{Ok, ap, inr, sym}
use Rattle.wf_reader.specs.Event.{inside_envelope}
use Rattle.serde_json.specs.View.{view}
use Rattle.wf_value.proofs.PassedOn.{passed_on}
use Rattle.wf_reader.proofs.InOrder.{first_decides, skip, same_value}
use Rattle.wf_reader.proofs.JobFaults.{inside_object}
use Rattle.wf_reader.proofs.EventParts.{past_texts, event_made, of_given}
use Rattle.wf_reader.proofs.event.event_in.Goals as goal

pub returns-in_err-repo : goal.returns-in_err-repo
returns-in_err-repo c =
    passed_on _ _ _ _ _ c.from_residual.ensures.1 c.in_err-repo.ensures (λ refused.
    inside_object inside_envelope _ _ _ c.if-not-is_object.ensures (first_decides _ _ _ _ _ refused))

pub returns-in_err-path : goal.returns-in_err-path
returns-in_err-path c =
    passed_on _ _ _ _ _ c.from_residual-in_err-path.ensures.1 c.in_err-path.ensures (λ refused.
    inside_object inside_envelope _ _ _ c.if-not-is_object.ensures (skip _ _ _ _ _ _ c.in_ok-repo.ensures
    (first_decides _ _ _ _ _ refused)))

pub returns-in_err-check_contexts : goal.returns-in_err-check_contexts
returns-in_err-check_contexts c =
    passed_on _ _ _ _ _ c.from_residual-in_err-check_contexts.ensures.1 (inr (sym c.in_err-check_contexts.ensures)) (λ refused.
    past_texts _ _ _ _ _ _ _ c.if-not-is_object.ensures c.in_ok-repo.ensures c.in_ok-path.ensures (first_decides _ _ _ _ _ refused))

pub returns-in_err-workflow : goal.returns-in_err-workflow
returns-in_err-workflow c =
    passed_on _ _ _ _ _ c.from_residual-in_err-workflow.ensures.1 c.in_err-workflow.ensures (λ refused.
    past_texts _ _ _ _ _ _ _ c.if-not-is_object.ensures c.in_ok-repo.ensures c.in_ok-path.ensures
    (skip _ _ _ _ _ _ (sym c.in_ok-check_contexts.ensures)
    (first_decides _ _ _ _ _ (of_given _ _ _ c.and_workflow-contexts.ensures.workflow refused))))

pub returns : goal.returns
returns c =
    let read = of_given _ _ _ c.and_workflow-contexts.ensures.workflow c.in_ok-workflow.ensures in
    past_texts _ _ _ _ _ _ _ c.if-not-is_object.ensures c.in_ok-repo.ensures c.in_ok-path.ensures
    (skip _ _ _ _ _ _ (sym c.in_ok-check_contexts.ensures) (skip _ _ _ _ _ _ read (ap Ok (event_made (view c.args.value) _ _ _ _
    (same_value _ _ _ c.in_ok-repo.ensures) (same_value _ _ _ c.in_ok-path.ensures) (sym c.and_workflow-contexts.ensures.contexts)
    (same_value _ _ _ read)))))
