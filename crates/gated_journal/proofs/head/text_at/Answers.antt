use Rattle.std.proofs.Common.{rules, arith}
use Rattle.gated_journal.proofs.Heads.{has_number, has_text}
use Rattle.gated_journal.proofs.head.text_at.Goals as goal

pub returns-clause-some : goal.returns-clause-some
returns-clause-some c =
    let number = c.in_ok-count.ensures in
    let count = c.in_ok-count.count in
    let suffix = c.in_ok-count.suffix.now in
    has_text c.args.bytes.now count suffix c.split_at.result.0.now c.split_at.result.1.now
    (has_number c.args.bytes.now count suffix (λ i. omega (arith, c.type_inv.bytes i)) number.long (search rules) number.number number.rest)
    (search rules) (search rules) (search rules)
