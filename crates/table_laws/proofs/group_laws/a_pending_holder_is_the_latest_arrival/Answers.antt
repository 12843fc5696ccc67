use Rattle.table_laws.proofs.GroupFollows.{waits_as_latest}
use Rattle.table_laws.proofs.group_laws.a_pending_holder_is_the_latest_arrival.Goals as goal

pub returns : goal.returns
returns c = waits_as_latest
