use Rattle.settling_laws.proofs.Forgot.{forgot_is_sound}
use Rattle.settling_laws.proofs.forgetting.forgetting_keeps_tables_sound.Goals as goal

pub returns : goal.returns
returns c = λ t id sound. forgot_is_sound t id sound
