use Rattle.command_encodings.proofs.Known.{faultless_fits}
use Rattle.encoding_laws.proofs.commands.body_fits.Goals as goal

pub returns : goal.returns
returns c = faultless_fits c.args.event.now.body c.body.ensures.faultless
