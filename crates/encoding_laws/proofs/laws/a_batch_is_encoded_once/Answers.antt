use Rattle.command_encodings.specs.Commands.{batch}
use Rattle.command_encodings.proofs.Readers.{one_encoding}
use Rattle.encoding_laws.proofs.laws.a_batch_is_encoded_once.Goals as goal

pub returns : goal.returns
returns c = one_encoding batch c.args.commands.now (c.requires.some, c.requires.most, c.all_fit.ensures)
