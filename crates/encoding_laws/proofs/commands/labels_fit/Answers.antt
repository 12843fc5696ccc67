use Rattle.command_encodings.proofs.Known.{labels_take}
use Rattle.encoding_laws.proofs.commands.labels_fit.Goals as goal

pub returns : goal.returns
returns c = labels_take c.args.value.now c.as_slice.ensures.form
