use Rattle.table_laws.proofs.HistoryLaw.{group_keeps_law}
use Rattle.table_laws.proofs.group_histories.every_group_keeps_its_law.Goals as goal

pub returns : goal.returns
returns c = group_keeps_law
