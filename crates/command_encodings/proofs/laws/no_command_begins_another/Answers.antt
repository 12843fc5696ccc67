use Rattle.command_encodings.specs.Commands.{command}
use Rattle.command_encodings.specs.inner.ReadingCommands.{command_at}
use Rattle.command_encodings.proofs.CommandReaders.{command_reads}
use Rattle.command_encodings.proofs.Readers.{none_begins}
use Rattle.command_encodings.proofs.laws.no_command_begins_another.Goals as goal

pub returns : goal.returns
returns c = none_begins command command_at command_reads
