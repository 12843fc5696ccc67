use Rattle.table_text.proofs.WholeSecondTables.{second_batch_begins_none}
use Rattle.table_text.proofs.laws.no_second_batch_begins_another.Goals as goal

pub returns : goal.returns
returns c = second_batch_begins_none
