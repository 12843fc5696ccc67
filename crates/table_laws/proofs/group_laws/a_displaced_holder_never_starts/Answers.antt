use Rattle.table_laws.proofs.GroupFollows.{displaced_never_starts}
use Rattle.table_laws.proofs.group_laws.a_displaced_holder_never_starts.Goals as goal

pub returns : goal.returns
returns c = displaced_never_starts
