use Rattle.table_text.proofs.WholeTables.{whole_begins_none}
use Rattle.table_text.proofs.laws.no_whole_table_begins_another.Goals as goal

pub returns : goal.returns
returns c = whole_begins_none
