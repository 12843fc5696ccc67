use Rattle.std.proofs.Common.{refl}
use Rattle.wf_value.proofs.PassedOn.{passed_on}
use Rattle.run_plan.specs.PlanOf.{faults_of, plan_of}
use Rattle.wf_reader.proofs.InOrder.{no_fault}
use Rattle.wf_reader.proofs.Contents.{same_refusal}
use Rattle.run_plan.proofs.prepared.prepare_copy.Goals as goal

pub returns-in_err-contexts-clause-gives : goal.returns-in_err-contexts-clause-gives
returns-in_err-contexts-clause-gives c =
    let body = c.args.body.now in
    passed_on _ _ _ _ c.in_err-contexts.field-0.0 c.from_residual.ensures.1 c.in_err-contexts.ensures.gives
    (λ refused. same_refusal (faults_of body) (plan_of body) _ c.in_err-contexts.field-0.0 refused)

pub invariant_of-result : goal.invariant_of-result
invariant_of-result c =
    let body = c.args.body.now in
    let given = c.in_ok-contexts.ensures.gives in
    let copied = c.in_ok-bytes.ensures.items_if_clones_equal (λ x y same. same) in
    rw (c.in_ok-body.ensures.ok, c.in_ok-workflow.ensures.ok, copied)
    (no_fault (faults_of body) (plan_of body) _ given, c.in_ok-contexts.ensures.contexts, c.in_ok-contexts.ensures.planned)

pub returns-clause-gives : goal.returns-clause-gives
returns-clause-gives c =
    let body = c.args.body.now in
    let given = c.in_ok-contexts.ensures.gives in
    let none = no_fault (faults_of body) (plan_of body) _ given in
    let copied = c.in_ok-bytes.ensures.items_if_clones_equal (λ x y same. same) in
    rw (none, c.in_ok-admission.ensures.ok, c.in_ok-body.ensures.ok, copied) refl
