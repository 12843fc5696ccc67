use Rattle.step_laws.proofs.Answered.{claim_anyway, done_anyway}
use Rattle.step_laws.proofs.laws.repeated_commands_need_no_memory.Goals as goal

pub returns-clause-claim : goal.returns-clause-claim
returns-clause-claim c = claim_anyway

pub returns-clause-done : goal.returns-clause-done
returns-clause-done c = done_anyway
