use Rattle.settling_laws.proofs.Rests.{settled_has_no_place}
use Rattle.settling_laws.proofs.laws.settled_runs_rest.Goals as goal

pub returns : goal.returns
returns c = λ runs. settled_has_no_place runs
