use Rattle.command_encodings.specs.Commands.{command}
use Rattle.command_encodings.proofs.Readers.{one_encoding}
use Rattle.encoding_laws.proofs.laws.a_command_is_encoded_once.Goals as goal

pub returns : goal.returns
returns c = one_encoding command c.args.requested.now c.command_fits.ensures
