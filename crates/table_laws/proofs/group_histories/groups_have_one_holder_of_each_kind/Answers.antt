use Rattle.table_laws.proofs.HistoryWords.{one_pending_after, one_in_progress_after}
use Rattle.table_laws.proofs.group_histories.groups_have_one_holder_of_each_kind.Goals as goal

pub returns-clause-pending : goal.returns-clause-pending
returns-clause-pending c = one_pending_after

pub returns-clause-in_progress : goal.returns-clause-in_progress
returns-clause-in_progress c = one_in_progress_after
