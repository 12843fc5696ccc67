use Rattle.std.proofs.Common.{Ok, ap}
use Rattle.wf_value.proofs.PassedOn.{passed_on}
use Rattle.wf_reader.proofs.InOrder.{first_decides, skip, same_value}
use Rattle.wf_reader.proofs.JobFaults.{legs_made}
use Rattle.wf_reader.proofs.job.read_legs.Goals as goal

pub returns-in_err-continue_on_error : goal.returns-in_err-continue_on_error
returns-in_err-continue_on_error c =
    passed_on _ _ _ _ _ c.from_residual.ensures.1 c.in_err-continue_on_error.ensures (first_decides _ _ _ _ _)

pub returns-in_err-concurrency : goal.returns-in_err-concurrency
returns-in_err-concurrency c =
    passed_on _ _ _ _ _ c.from_residual-in_err-concurrency.ensures.1 c.in_err-concurrency.ensures (λ refused.
    skip _ _ _ _ _ _ c.in_ok-continue_on_error.ensures (first_decides _ _ _ _ _ refused))

pub returns-in_err-strategy : goal.returns-in_err-strategy
returns-in_err-strategy c =
    passed_on _ _ _ _ _ c.from_residual-in_err-strategy.ensures.1 c.in_err-strategy.ensures (λ refused.
    skip _ _ _ _ _ _ c.in_ok-continue_on_error.ensures (skip _ _ _ _ _ _ c.in_ok-concurrency.ensures
    (first_decides _ _ _ _ _ refused)))

pub returns : goal.returns
returns c =
    skip _ _ _ _ _ _ c.in_ok-continue_on_error.ensures (skip _ _ _ _ _ _ c.in_ok-concurrency.ensures
    (skip _ _ _ _ _ _ c.in_ok-strategy.ensures (ap Ok (legs_made _ _ _ _ _ _ (same_value _ _ _ c.in_ok-continue_on_error.ensures)
    (same_value _ _ _ c.in_ok-concurrency.ensures) (same_value _ _ _ c.in_ok-strategy.ensures)))))
