use Rattle.table_laws.proofs.GroupFollows.{one_waits}
use Rattle.table_laws.proofs.group_laws.at_most_one_holder_is_pending.Goals as goal

pub returns : goal.returns
returns c = one_waits
