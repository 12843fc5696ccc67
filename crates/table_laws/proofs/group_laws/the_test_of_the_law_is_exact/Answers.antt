use Rattle.table_laws.proofs.GroupLawTested.{law_by_test, test_of_law}
use Rattle.table_laws.proofs.group_laws.the_test_of_the_law_is_exact.Goals as goal

pub returns-clause-yes : goal.returns-clause-yes
returns-clause-yes c = law_by_test

pub returns-clause-only : goal.returns-clause-only
returns-clause-only c = test_of_law
