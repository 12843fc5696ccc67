use Rattle.step_laws.proofs.Answered.{known_anyway}
use Rattle.step_laws.proofs.laws.known_deliveries_need_no_memory.Goals as goal

pub returns : goal.returns
returns c = known_anyway
