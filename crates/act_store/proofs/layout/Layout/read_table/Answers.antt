use Rattle.act_store.proofs.layout.Layout.read_table.Goals as goal

pub returns-in-First-clause-prefix : goal.returns-in-First-clause-prefix
returns-in-First-clause-prefix c = rw c.in-First.is c.read_first_table.ensures.prefix

pub returns-in-Second-clause-prefix : goal.returns-in-Second-clause-prefix
returns-in-Second-clause-prefix c = rw c.in-Second.is c.read_second_table.ensures.prefix

pub returns-in-Third-clause-prefix : goal.returns-in-Third-clause-prefix
returns-in-Third-clause-prefix c = rw c.in-Third.is c.read_table.ensures.prefix
