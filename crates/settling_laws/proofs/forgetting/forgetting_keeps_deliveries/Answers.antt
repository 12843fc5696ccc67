use Rattle.settling_laws.proofs.Forgot.{delivery_stays_known}
use Rattle.settling_laws.proofs.forgetting.forgetting_keeps_deliveries.Goals as goal

pub returns : goal.returns
returns c = λ t id delivery run sound known recent. delivery_stays_known t id delivery run sound known recent
