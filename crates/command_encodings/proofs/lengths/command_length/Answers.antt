use Rattle.std.proofs.Common.{ap, sym, ◌∙◌, ◌+◌}
use Rattle.command_encodings.proofs.LengthLaws.{length_command}
use Rattle.command_encodings.proofs.lengths.command_length.Goals as goal

pub returns-clause-length : goal.returns-clause-length
returns-clause-length c = ap (λ n. 1 + n) c.fields_length.ensures.length ∙ sym (length_command c.args.requested.now)
