use Rattle.settling_laws.proofs.Forgot.{last_id_stays}
use Rattle.settling_laws.proofs.forgetting.forgetting_keeps_the_last_id.Goals as goal

pub returns : goal.returns
returns c = λ t id. last_id_stays t id
