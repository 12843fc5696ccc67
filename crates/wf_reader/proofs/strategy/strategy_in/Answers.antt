use Rattle.std.proofs.Common.{Ok, Err, ap, inr, sym, ◌∙◌}
use Rattle.wf_value.proofs.PassedOn.{passed_on}
use Rattle.wf_reader.proofs.InOrder.{first_decides, skip, same_value}
use Rattle.wf_reader.proofs.StrategyParts.{in_strategy, other_name, its_names, strategy_made}
use Rattle.wf_reader.proofs.strategy.strategy_in.Goals as goal

pub returns-then-not-has_strategy_names : goal.returns-then-not-has_strategy_names
returns-then-not-has_strategy_names c =
    inr (in_strategy _ _ _ _ c.in-Some.ensures (other_name _ _ _ _ c.in-Some.ensures c.if-not-has_strategy_names.ensures)
    ∙ ap Err (sym c.strategy_member-then-not-has_strategy_names.ensures))

pub returns-in_err-fail_fast : goal.returns-in_err-fail_fast
returns-in_err-fail_fast c =
    passed_on _ _ _ _ _ c.from_residual.ensures.1 (inr (sym c.in_err-fail_fast.ensures)) (λ refused.
    in_strategy _ _ _ _ c.in-Some.ensures (its_names _ _ _ _ _ c.in-Some.ensures c.if-not-has_strategy_names.ensures
    (first_decides _ _ _ _ _ refused)))

pub returns-in_err-max_parallel : goal.returns-in_err-max_parallel
returns-in_err-max_parallel c =
    passed_on _ _ _ _ _ c.from_residual-in_err-max_parallel.ensures.1 (inr (sym c.in_err-max_parallel.ensures)) (λ refused.
    in_strategy _ _ _ _ c.in-Some.ensures (its_names _ _ _ _ _ c.in-Some.ensures c.if-not-has_strategy_names.ensures
    (skip _ _ _ _ _ _ (sym c.in_ok-fail_fast.ensures) (first_decides _ _ _ _ _ refused))))

pub returns-in_err-matrix : goal.returns-in_err-matrix
returns-in_err-matrix c =
    passed_on _ _ _ _ _ c.from_residual-in_err-matrix.ensures.1 c.in_err-matrix.ensures (λ refused.
    in_strategy _ _ _ _ c.in-Some.ensures (its_names _ _ _ _ _ c.in-Some.ensures c.if-not-has_strategy_names.ensures
    (skip _ _ _ _ _ _ (sym c.in_ok-fail_fast.ensures) (skip _ _ _ _ _ _ (sym c.in_ok-max_parallel.ensures)
    (first_decides _ _ _ _ _ refused)))))

pub returns : goal.returns
returns c =
    in_strategy _ _ _ _ c.in-Some.ensures (its_names _ _ _ _ _ c.in-Some.ensures c.if-not-has_strategy_names.ensures
    (skip _ _ _ _ _ _ (sym c.in_ok-fail_fast.ensures) (skip _ _ _ _ _ _ (sym c.in_ok-max_parallel.ensures)
    (skip _ _ _ _ _ _ c.in_ok-matrix.ensures (ap Ok (strategy_made _ _ _ _ _ _ (same_value _ _ _ c.in_ok-matrix.ensures)
    (same_value _ _ _ (sym c.in_ok-fail_fast.ensures)) (same_value _ _ _ (sym c.in_ok-max_parallel.ensures))))))))
