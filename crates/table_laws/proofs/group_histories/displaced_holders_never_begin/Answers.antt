use Rattle.table_laws.proofs.HistoryWords.{displaced_never_began}
use Rattle.table_laws.proofs.NeverLeased.{displaced_never_leased}
use Rattle.table_laws.proofs.group_histories.displaced_holders_never_begin.Goals as goal

pub returns-clause-cancelled : goal.returns-clause-cancelled
returns-clause-cancelled c = displaced_never_began

pub returns-clause-unleased : goal.returns-clause-unleased
returns-clause-unleased c = displaced_never_leased
