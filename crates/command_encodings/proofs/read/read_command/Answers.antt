use Rattle.std.proofs.Common.{arith}
use Rattle.command_encodings.specs.Commands.{command}
use Rattle.command_encodings.specs.inner.ReadingCommands.{command_at}
use Rattle.command_encodings.proofs.CommandReaders.{command_reads}
use Rattle.command_encodings.proofs.Readers.{found_as_prefix, none_as_prefix}
use Rattle.command_encodings.proofs.read.read_command.Goals as goal

pub returns-in-Ok-clause-prefix : goal.returns-in-Ok-clause-prefix
returns-in-Ok-clause-prefix c = found_as_prefix command command_at command_reads c.args.bytes.now _ (λ i. omega (arith, c.type_inv.bytes i))
    c.in-Ok.ensures

pub returns-in-Err-NoEncoding-clause-prefix : goal.returns-in-Err-NoEncoding-clause-prefix
returns-in-Err-NoEncoding-clause-prefix c = none_as_prefix command command_at command_reads c.args.bytes.now
    (rw c.in-Err-NoEncoding.field-0-is at c.in-Err-NoEncoding.ensures)
