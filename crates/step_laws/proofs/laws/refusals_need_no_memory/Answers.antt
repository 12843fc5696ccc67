use Rattle.step_laws.proofs.Answered.{numbered_anyway, turn_anyway}
use Rattle.step_laws.proofs.laws.refusals_need_no_memory.Goals as goal

pub returns-clause-numbered : goal.returns-clause-numbered
returns-clause-numbered c = numbered_anyway

pub returns-clause-turn : goal.returns-clause-turn
returns-clause-turn c = turn_anyway
