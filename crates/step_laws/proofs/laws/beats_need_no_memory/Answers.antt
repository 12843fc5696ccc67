use Rattle.step_laws.proofs.Answered.{beat_anyway}
use Rattle.step_laws.proofs.laws.beats_need_no_memory.Goals as goal

pub returns : goal.returns
returns c = beat_anyway
