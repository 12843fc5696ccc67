use Rattle.table_laws.proofs.SkipsDue.{skips_due}
use Rattle.table_laws.proofs.laws.skips_are_due.Goals as goal

pub returns : goal.returns
returns c = λ commands. skips_due commands
