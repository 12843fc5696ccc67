use Rattle.table_text.proofs.WholeSecondTables.{second_begins_none}
use Rattle.table_text.proofs.laws.no_whole_second_table_begins_another.Goals as goal

pub returns : goal.returns
returns c = second_begins_none
