use Rattle.settling_laws.proofs.Forgot.{holders_stay}
use Rattle.settling_laws.proofs.forgetting.forgetting_keeps_holders.Goals as goal

pub returns : goal.returns
returns c = λ t id g sound. holders_stay t id g sound
