use Rattle.table_text.proofs.TableLengthLaws.{length_table}
use Rattle.table_text.proofs.laws.a_table_has_the_bytes_of_its_fields.Goals as goal

pub returns : goal.returns
returns c = length_table
