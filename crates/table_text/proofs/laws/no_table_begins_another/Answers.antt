use Rattle.table_text.specs.inner.ReadingTables.{table_at}
use Rattle.table_text.specs.Tables.{table}
use Rattle.command_encodings.proofs.Readers.{none_begins}
use Rattle.table_text.proofs.TableReaders.{table_reads}
use Rattle.table_text.proofs.laws.no_table_begins_another.Goals as goal

pub returns : goal.returns
returns c = none_begins table table_at table_reads
