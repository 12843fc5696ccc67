use Rattle.settling_laws.proofs.Rests.{settling_by_rule}
use Rattle.settling_laws.proofs.laws.rules_lead_to_one_end.Goals as goal

pub returns : goal.returns
returns c = λ runs next is. settling_by_rule runs next is
