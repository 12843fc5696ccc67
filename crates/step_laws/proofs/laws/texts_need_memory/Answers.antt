use Rattle.step_laws.proofs.Answered.{anyway_without_text}
use Rattle.step_laws.proofs.laws.texts_need_memory.Goals as goal

pub returns : goal.returns
returns c = anyway_without_text
