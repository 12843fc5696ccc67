use Rattle.table_text.proofs.WholeSecondTables.{none_of_second_parts, none_without_second_parts, one_of_second_parts}
use Rattle.table_text.proofs.second.read_second_table.Goals as goal

pub returns-in_default-clause-prefix : goal.returns-in_default-clause-prefix
returns-in_default-clause-prefix c = none_without_second_parts c.args.bytes.now (rw c.in_default.is at c.in_ok-parts.ensures.prefix)

pub returns-clause-prefix : goal.returns-clause-prefix
returns-clause-prefix c =
    none_of_second_parts c.args.bytes.now c.in-Some.rest.now c.in-Some.parts (rw c.in-Some.is at c.in_ok-parts.ensures.prefix)
    (rw c.in-None.is at c.in_ok-table.ensures.of)

pub returns-in-Some-2-clause-prefix : goal.returns-in-Some-2-clause-prefix
returns-in-Some-2-clause-prefix c =
    one_of_second_parts c.args.bytes.now c.in-Some.rest.now c.in-Some.parts c.in-Some-2.table (rw c.in-Some.is at c.in_ok-parts.ensures.prefix)
    (rw c.in-Some-2.is at c.in_ok-table.ensures.of)
