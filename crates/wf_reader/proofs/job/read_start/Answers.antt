use Rattle.std.proofs.Common.{Ok, ap, inr, sym}
use Rattle.wf_value.proofs.PassedOn.{passed_on}
use Rattle.wf_reader.proofs.InOrder.{first_decides, skip, same_value}
use Rattle.wf_reader.proofs.JobFaults.{start_made}
use Rattle.wf_reader.proofs.job.read_start.Goals as goal

pub returns-in_err-labels : goal.returns-in_err-labels
returns-in_err-labels c = passed_on _ _ _ _ _ c.from_residual.ensures.1 c.in_err-labels.ensures (first_decides _ _ _ _ _)

pub returns-in_err-needs : goal.returns-in_err-needs
returns-in_err-needs c =
    passed_on _ _ _ _ _ c.from_residual-in_err-needs.ensures.1 c.in_err-needs.ensures (λ refused.
    skip _ _ _ _ _ _ c.in_ok-labels.ensures (first_decides _ _ _ _ _ refused))

pub returns-in_err-condition : goal.returns-in_err-condition
returns-in_err-condition c =
    passed_on _ _ _ _ _ c.from_residual-in_err-condition.ensures.1 (inr (sym c.in_err-condition.ensures)) (λ refused.
    skip _ _ _ _ _ _ c.in_ok-labels.ensures (skip _ _ _ _ _ _ c.in_ok-needs.ensures (first_decides _ _ _ _ _ refused)))

pub returns : goal.returns
returns c =
    skip _ _ _ _ _ _ c.in_ok-labels.ensures (skip _ _ _ _ _ _ c.in_ok-needs.ensures (skip _ _ _ _ _ _ (sym c.in_ok-condition.ensures)
    (ap Ok (start_made _ _ _ _ _ _ (same_value _ _ _ c.in_ok-labels.ensures) (same_value _ _ _ c.in_ok-needs.ensures)
    (same_value _ _ _ (sym c.in_ok-condition.ensures))))))
