use Rattle.table_laws.proofs.GroupFollows.{one_runs}
use Rattle.table_laws.proofs.group_laws.at_most_one_holder_runs.Goals as goal

pub returns : goal.returns
returns c = one_runs
