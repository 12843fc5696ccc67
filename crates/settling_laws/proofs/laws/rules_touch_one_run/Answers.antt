use Rattle.settling_laws.proofs.OwnRun.{own_run_alone}
use Rattle.settling_laws.proofs.laws.rules_touch_one_run.Goals as goal

pub returns : goal.returns
returns c = λ runs next site r is plain other. own_run_alone runs next site r is plain other
