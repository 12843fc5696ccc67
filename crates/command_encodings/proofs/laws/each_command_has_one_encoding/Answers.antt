use Rattle.command_encodings.specs.Commands.{command}
use Rattle.command_encodings.proofs.Readers.{one_encoding}
use Rattle.command_encodings.proofs.laws.each_command_has_one_encoding.Goals as goal

pub returns : goal.returns
returns c = one_encoding command
