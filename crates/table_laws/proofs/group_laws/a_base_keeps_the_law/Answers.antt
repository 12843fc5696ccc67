use Rattle.table_laws.proofs.GroupBase.{base_keeps_law, base_matches}
use Rattle.table_laws.proofs.group_laws.a_base_keeps_the_law.Goals as goal

pub returns-clause-law : goal.returns-clause-law
returns-clause-law c = base_keeps_law

pub returns-clause-state : goal.returns-clause-state
returns-clause-state c = base_matches
