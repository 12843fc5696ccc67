use Rattle.wf_reader.proofs.ConditionTexts.{spelled}
use Rattle.wf_reader.proofs.condition.conditions_are_their_encodings.Goals as goal

pub returns : goal.returns
returns c = spelled
