use Rattle.std.proofs.KnownBytes.{Appends-kept}
use Rattle.program_commands.specs.Made.{made_line}
use Rattle.program_commands.proofs.init.write_made.Goals as goal

pub returns-clause-prefix : goal.returns-clause-prefix
returns-clause-prefix g c = (5, Appends-kept _ _ _ made_line c.in_ok-write_whole.ensures.all c.flush.ensures.kept)
