use Rattle.command_encodings.proofs.Known.{short_fits}
use Rattle.encoding_laws.proofs.commands.small_text_fits.Goals as goal

pub returns : goal.returns
returns g c = (short_fits g.F.Form.allows c.args.text.now c.as_str.ensures.form, c.as_str.ensures.form)
