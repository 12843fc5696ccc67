use Rattle.std.proofs.Common.{List, ℕ, ap, arith, length}
use Rattle.command_encodings.proofs.Readers.{text_reads}
use Rattle.table_text.proofs.forgotten_at.name_at.Goals as goal

pub returns-clause-short : goal.returns-clause-short
returns-clause-short c =
    let prefix = text_reads.sound c.args.bytes.now (c.in_ok-text.text.now, c.in_ok-text.rest.now) (λ i. omega (arith, c.type_inv.bytes i))
    c.in_ok-text.ensures in
    omega (arith, prefix.takes, ap (λ (l : List ℕ). length l) c.in_ok-name.ensures.same)
