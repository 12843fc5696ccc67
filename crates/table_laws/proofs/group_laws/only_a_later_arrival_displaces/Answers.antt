use Rattle.table_laws.proofs.GroupFollows.{displaced_by_a_later_one}
use Rattle.table_laws.proofs.group_laws.only_a_later_arrival_displaces.Goals as goal

pub returns : goal.returns
returns c = displaced_by_a_later_one
