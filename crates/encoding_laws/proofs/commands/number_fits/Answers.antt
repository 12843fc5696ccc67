use Rattle.std.proofs.Common.{arith}
use Rattle.command_encodings.proofs.Known.{is_numbered_within}
use Rattle.encoding_laws.proofs.commands.number_fits.Goals as goal

pub returns : goal.returns
returns c = (omega arith, is_numbered_within c.args.value (omega arith) (omega arith))
