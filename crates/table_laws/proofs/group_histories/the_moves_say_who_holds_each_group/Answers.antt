use Rattle.table_laws.proofs.HoldersSaid.{moves_say_who_holds}
use Rattle.table_laws.proofs.group_histories.the_moves_say_who_holds_each_group.Goals as goal

pub returns : goal.returns
returns c = moves_say_who_holds
