use Rattle.command_encodings.proofs.LengthLaws.{length_command}
use Rattle.command_encodings.proofs.laws.a_command_has_the_bytes_of_its_fields.Goals as goal

pub returns : goal.returns
returns c = length_command
