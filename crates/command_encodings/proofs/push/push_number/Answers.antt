use Rattle.std.proofs.Common.{arith}
use Rattle.command_encodings.proofs.Known.{is_numbered_within}
use Rattle.command_encodings.proofs.push.push_number.Goals as goal

pub returns-clause-takes : goal.returns-clause-takes
returns-clause-takes c = (omega arith, is_numbered_within c.args.value (omega arith) (omega arith))
