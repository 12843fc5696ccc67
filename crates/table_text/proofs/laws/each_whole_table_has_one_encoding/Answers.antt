use Rattle.table_text.specs.Tables.{whole_table}
use Rattle.command_encodings.proofs.Readers.{one_encoding}
use Rattle.table_text.proofs.laws.each_whole_table_has_one_encoding.Goals as goal

pub returns : goal.returns
returns c = one_encoding whole_table
