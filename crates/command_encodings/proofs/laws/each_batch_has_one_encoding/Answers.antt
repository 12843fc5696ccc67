use Rattle.command_encodings.specs.Commands.{batch}
use Rattle.command_encodings.proofs.Readers.{one_encoding}
use Rattle.command_encodings.proofs.laws.each_batch_has_one_encoding.Goals as goal

pub returns : goal.returns
returns c = one_encoding batch
