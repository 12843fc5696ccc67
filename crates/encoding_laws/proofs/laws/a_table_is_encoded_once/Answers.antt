use Rattle.table_text.specs.Tables.{whole_table}
use Rattle.command_encodings.proofs.Readers.{one_encoding}
use Rattle.encoding_laws.proofs.laws.a_table_is_encoded_once.Goals as goal

pub returns : goal.returns
returns c = one_encoding whole_table c.args.table.now (c.table_fits.ensures.sound, c.table_fits.ensures.takes)
