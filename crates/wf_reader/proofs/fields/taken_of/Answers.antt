use Rattle.wf_reader.proofs.ContextParts.{taken}
use Rattle.wf_reader.proofs.fields.taken_of.Goals as goal

pub returns : goal.returns
returns c = taken c.args.name.now c.args.members.entries _ c.remove.ensures.value
