use Rattle.command_encodings.specs.Commands.{batch}
use Rattle.command_encodings.specs.inner.ReadingCommands.{batch_at}
use Rattle.command_encodings.proofs.CommandReaders.{batch_reads}
use Rattle.command_encodings.proofs.Readers.{none_begins}
use Rattle.command_encodings.proofs.laws.no_batch_begins_another.Goals as goal

pub returns : goal.returns
returns c = none_begins batch batch_at batch_reads
