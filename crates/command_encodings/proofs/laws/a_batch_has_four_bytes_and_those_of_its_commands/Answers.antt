use Rattle.command_encodings.proofs.LengthLaws.{length_batch}
use Rattle.command_encodings.proofs.laws.a_batch_has_four_bytes_and_those_of_its_commands.Goals as goal

pub returns : goal.returns
returns c = length_batch
