use Rattle.table_laws.proofs.HistoryWords.{nobody_else_starts}
use Rattle.table_laws.proofs.group_histories.nobody_starts_before_the_holder_has_ended.Goals as goal

pub returns : goal.returns
returns c = nobody_else_starts
