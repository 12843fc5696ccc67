use Rattle.std.proofs.Common.{arith}
use Rattle.table_text.specs.inner.ReadingSecond.{second_table_at}
use Rattle.table_text.specs.SecondLayout.{second_table}
use Rattle.command_encodings.proofs.Readers.{found_as_prefix, none_as_prefix}
use Rattle.table_text.proofs.WholeSecondTables.{second_table_reads}
use Rattle.table_text.proofs.second.read_second_parts.Goals as goal

pub returns-in-Ok-clause-prefix : goal.returns-in-Ok-clause-prefix
returns-in-Ok-clause-prefix c = found_as_prefix second_table second_table_at second_table_reads c.args.bytes.now _ (λ i. omega (arith, c.type_inv.bytes i))
    c.in-Ok.ensures

pub returns-in-Err-NoEncoding-clause-prefix : goal.returns-in-Err-NoEncoding-clause-prefix
returns-in-Err-NoEncoding-clause-prefix c = none_as_prefix second_table second_table_at second_table_reads c.args.bytes.now
    (rw c.in-Err-NoEncoding.field-0-is at c.in-Err-NoEncoding.ensures)
