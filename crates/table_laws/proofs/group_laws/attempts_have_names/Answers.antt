use Rattle.table_laws.proofs.Packed.{packed}
use Rattle.table_laws.proofs.group_laws.attempts_have_names.Goals as goal

pub returns : goal.returns
returns c = packed
