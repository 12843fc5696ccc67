use Rattle.table_laws.proofs.GroupFollows.{ended_is_over}
use Rattle.table_laws.proofs.group_laws.an_end_is_final.Goals as goal

pub returns : goal.returns
returns c = ended_is_over
