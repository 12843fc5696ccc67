use Rattle.settling_laws.proofs.Lowered.{first_rule_lowers}
use Rattle.settling_laws.proofs.laws.each_rule_lowers.Goals as goal

pub returns : goal.returns
returns c = λ runs next is. first_rule_lowers runs next is
