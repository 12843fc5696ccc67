use Rattle.table_laws.proofs.GroupFollows.{first_has_ended}
use Rattle.table_laws.proofs.group_laws.a_group_is_free_before_the_next_start.Goals as goal

pub returns : goal.returns
returns c = first_has_ended
