use Rattle.settling_laws.proofs.Forgot.{number_stays}
use Rattle.settling_laws.proofs.forgetting.forgetting_keeps_numbers.Goals as goal

pub returns : goal.returns
returns c = λ t id event sound. number_stays t id event sound
