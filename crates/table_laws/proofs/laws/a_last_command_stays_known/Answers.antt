use Rattle.table_laws.proofs.Discharges.{discharged_is_unknown}
use Rattle.table_laws.proofs.Remembered.{answered_is_last, last_after, last_after_step, last_is_answered}
use Rattle.table_laws.proofs.laws.a_last_command_stays_known.Goals as goal

pub returns-clause-established : goal.returns-clause-established
returns-clause-established c = answered_is_last

pub returns-clause-kept : goal.returns-clause-kept
returns-clause-kept c t first d name number given numbered is no_later no_discharge =
    last_after_step first name number given numbered t d is no_later no_discharge

pub returns-clause-kept_on : goal.returns-clause-kept_on
returns-clause-kept_on c t first later name number given numbered is no_later no_discharge =
    last_after first name number given numbered t later is no_later no_discharge

pub returns-clause-answered : goal.returns-clause-answered
returns-clause-answered c = last_is_answered

pub returns-clause-discharged : goal.returns-clause-discharged
returns-clause-discharged c = discharged_is_unknown
