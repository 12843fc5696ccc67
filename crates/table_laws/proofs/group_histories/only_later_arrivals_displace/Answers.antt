use Rattle.table_laws.proofs.HistoryWords.{only_a_later_one}
use Rattle.table_laws.proofs.group_histories.only_later_arrivals_displace.Goals as goal

pub returns : goal.returns
returns c = only_a_later_one
