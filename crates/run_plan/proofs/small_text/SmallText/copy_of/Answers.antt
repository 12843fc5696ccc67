use Rattle.run_plan.proofs.AsciiForms.{utf8_of_short}
use Rattle.run_plan.proofs.small_text.SmallText.copy_of.Goals as goal

pub text_of-requires : goal.text_of-requires
text_of-requires g c = utf8_of_short g.F.Form.allows g.met.F.Form.is_ascii c.args.text.now c.requires
