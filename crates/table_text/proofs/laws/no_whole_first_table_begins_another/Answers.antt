use Rattle.table_text.proofs.WholeFirstTables.{first_begins_none}
use Rattle.table_text.proofs.laws.no_whole_first_table_begins_another.Goals as goal

pub returns : goal.returns
returns c = first_begins_none
