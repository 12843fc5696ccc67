use Rattle.table_laws.proofs.GroupChangeKeeps.{change_keeps_law, change_matches}
use Rattle.table_laws.proofs.group_laws.each_change_keeps_the_law.Goals as goal

pub returns-clause-law : goal.returns-clause-law
returns-clause-law c = change_keeps_law

pub returns-clause-state : goal.returns-clause-state
returns-clause-state c = change_matches
