use Rattle.table_laws.proofs.Deliveries.{created_is_known, known_after, known_after_step, known_is_answered}
use Rattle.table_laws.proofs.laws.a_delivery_stays_known.Goals as goal

pub returns-clause-established : goal.returns-clause-established
returns-clause-established c = created_is_known

pub returns-clause-kept : goal.returns-clause-kept
returns-clause-kept c = known_after_step

pub returns-clause-kept_on : goal.returns-clause-kept_on
returns-clause-kept_on c = known_after

pub returns-clause-answered : goal.returns-clause-answered
returns-clause-answered c = known_is_answered
