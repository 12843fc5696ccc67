use Rattle.std.proofs.Common.{rules, arith, ◌-◌, length, take, drop}
use Rattle.std.proofs.lemmas.List.{take_rest}
use Rattle.gated_journal.proofs.CutOff.{head_cut}
use Rattle.gated_journal.proofs.Heads.{has_head_there}
use Rattle.gated_journal.proofs.head.head_at.Goals as goal

pub returns-clause-some : goal.returns-clause-some
returns-clause-some c =
    let bytes = c.args.bytes.now in
    let number = c.in_ok-generation.ensures in
    let text = c.in_ok-text in
    has_head_there bytes (take (length bytes - 1) (drop 1 bytes)) c.in_ok-generation.generation c.in_ok-generation.suffix.now
    text.text.now text.rest.now
    (λ i. omega (arith, c.type_inv.bytes i)) c.in-len1-up.len_at_least (take_rest bytes 1) number.long (search rules) number.number
    number.rest text.ensures.some

pub returns-in_err-text-clause-cut : goal.returns-in_err-text-clause-cut
returns-in_err-text-clause-cut c = λ none.
    let bytes = c.args.bytes.now in
    let number = c.in_ok-generation.ensures in
    head_cut bytes (take (length bytes - 1) (drop 1 bytes)) c.in_ok-generation.suffix.now (take_rest bytes 1) number.rest
    (c.in_err-text.ensures.cut (search rules))
