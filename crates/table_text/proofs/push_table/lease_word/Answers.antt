use Rattle.std.proofs.Common.{arith, subst, sym}
use Rattle.command_encodings.proofs.Known.{is_numbered_within}
use Rattle.table_text.specs.Tables.{IsLease}
use Rattle.table_text.proofs.push_table.lease_word.Goals as goal

pub returns-in-Some-clause-takes : goal.returns-in-Some-clause-takes
returns-in-Some-clause-takes c =
    let value = c.get.ensures.value in
    let low = c.get.ensures.low in
    let high = c.get.ensures.high in
    subst IsLease (sym c.in-Some.is)
    (omega (arith, value, high), is_numbered_within c.in-Some.number (omega (arith, value, low)) (omega (arith, value, high)))
