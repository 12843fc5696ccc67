use Rattle.table_laws.proofs.LeasesGoOn.{granted_or_repeated, last_lease_rises}
use Rattle.table_laws.proofs.laws.leases_go_on.Goals as goal

pub returns-clause-last_lease : goal.returns-clause-last_lease
returns-clause-last_lease c = last_lease_rises

pub returns-clause-granted : goal.returns-clause-granted
returns-clause-granted c = granted_or_repeated
