use Rattle.table_laws.proofs.GroupChangeKeeps.{changes_keep_law, changes_match}
use Rattle.table_laws.proofs.group_laws.any_changes_keep_the_law.Goals as goal

pub returns-clause-law : goal.returns-clause-law
returns-clause-law c = changes_keep_law

pub returns-clause-state : goal.returns-clause-state
returns-clause-state c = changes_match
