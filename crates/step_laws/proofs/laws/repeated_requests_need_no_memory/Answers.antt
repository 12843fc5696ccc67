use Rattle.step_laws.proofs.Answered.{cancel_anyway, forget_anyway, rerun_anyway}
use Rattle.step_laws.proofs.laws.repeated_requests_need_no_memory.Goals as goal

pub returns-clause-cancel : goal.returns-clause-cancel
returns-clause-cancel c = cancel_anyway

pub returns-clause-rerun : goal.returns-clause-rerun
returns-clause-rerun c = rerun_anyway

pub returns-clause-forget : goal.returns-clause-forget
returns-clause-forget c = forget_anyway
