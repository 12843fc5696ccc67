use Rattle.table_text.proofs.WholeFirstTables.{first_batch_begins_none}
use Rattle.table_text.proofs.laws.no_first_batch_begins_another.Goals as goal

pub returns : goal.returns
returns c = first_batch_begins_none
