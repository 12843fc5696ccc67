use Rattle.std.proofs.Common.{[], Ok, ap, inr, sym}
use Rattle.serde_json.specs.View.{view}
use Rattle.wf_value.proofs.PassedOn.{passed_on}
use Rattle.wf_reader.proofs.InOrder.{first_decides, skip, same_value}
use Rattle.wf_reader.proofs.JobFaults.{within_job, job_made}
use Rattle.wf_reader.proofs.job.read_job.Goals as goal

pub returns-in_err-refuse_left_out : goal.returns-in_err-refuse_left_out
returns-in_err-refuse_left_out c =
    passed_on _ _ _ _ _ c.from_residual.ensures.1 (inr (sym c.in_err-refuse_left_out.ensures)) (λ refused.
    within_job c.args.id.now (view c.args.value.now) _ _ c.if-not-is_job_id.ensures c.if-not-is_object.ensures
    (first_decides _ _ _ _ _ refused))

pub returns-in_err-start : goal.returns-in_err-start
returns-in_err-start c =
    passed_on _ _ _ _ _ c.from_residual-in_err-start.ensures.1 c.in_err-start.ensures (λ refused.
    within_job c.args.id.now (view c.args.value.now) _ _ c.if-not-is_job_id.ensures c.if-not-is_object.ensures
    (skip _ _ _ _ _ _ (sym c.in_ok-refuse_left_out.ensures) (first_decides _ _ _ _ _ refused)))

pub returns-in_err-legs : goal.returns-in_err-legs
returns-in_err-legs c =
    passed_on _ _ _ _ _ c.from_residual-in_err-legs.ensures.1 c.in_err-legs.ensures (λ refused.
    within_job c.args.id.now (view c.args.value.now) _ _ c.if-not-is_job_id.ensures c.if-not-is_object.ensures
    (skip _ _ _ _ _ _ (sym c.in_ok-refuse_left_out.ensures) (skip _ _ _ _ _ _ c.in_ok-start.ensures
    (first_decides _ _ _ _ _ refused))))

pub returns : goal.returns
returns c =
    within_job c.args.id.now (view c.args.value.now) _ _ c.if-not-is_job_id.ensures c.if-not-is_object.ensures
    (skip _ _ _ _ _ _ (sym c.in_ok-refuse_left_out.ensures) (skip _ _ _ _ _ _ c.in_ok-start.ensures
    (skip _ _ _ _ _ _ c.in_ok-legs.ensures (ap Ok (job_made _ _ _ _ _ _ (same_value [] _ _ c.in_ok-from_str.ensures.gives)
    (same_value _ _ _ c.in_ok-start.ensures) (same_value _ _ _ c.in_ok-legs.ensures))))))
