use Rattle.table_laws.proofs.KnownAttempts.{attempt_after, attempt_after_step, begun_is_known, known_attempt_is_answered}
use Rattle.table_laws.proofs.laws.an_attempt_stays_known.Goals as goal

pub returns-clause-established : goal.returns-clause-established
returns-clause-established c = begun_is_known

pub returns-clause-kept : goal.returns-clause-kept
returns-clause-kept c = attempt_after_step

pub returns-clause-kept_on : goal.returns-clause-kept_on
returns-clause-kept_on c = attempt_after

pub returns-clause-answered : goal.returns-clause-answered
returns-clause-answered c = known_attempt_is_answered
