use Rattle.std.proofs.Common.{rules, arith}
use Rattle.gated_journal.proofs.Scanning.{frames}
use Rattle.gated_journal.proofs.records.frame_at.Goals as goal

pub returns-clause-some : goal.returns-clause-some
returns-clause-some c =
    let number = c.in_ok-count.ensures in
    frames c.args.bytes.now c.in_ok-count.count c.in_ok-count.rest.now c.split_at.result.0.now c.split_at.result.1.now
    (λ i. omega (arith, c.type_inv.bytes i)) number.long (search rules) number.number number.rest (search rules) (search rules)
    (search rules)
