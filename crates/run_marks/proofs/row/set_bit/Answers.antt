use Rattle.std.proofs.Common.{ap, ◌∙◌, ◌/◌, ◌%◌}
use Rattle.std.proofs.lemmas.List.{get_or-set_other, get_or-set_same}
use Rattle.std.specs.Prelude.{true, slice_set}
use Rattle.run_marks.specs.Bits.{word_has}
use Rattle.run_marks.proofs.Rows.{row_puts}
use Rattle.run_marks.proofs.row.set_bit.Goals as goal

pub returns-clause-puts : goal.returns-clause-puts
returns-clause-puts c =
    let here = get_or-set_same c.args.words.now (c.args.k / 64) c.with_bit.result 0 c.requires in
    row_puts true c.args.k c.args.words.now (slice_set c.args.words.now (c.args.k / 64) c.with_bit.result)
    (λ u other. get_or-set_other c.args.words.now (c.args.k / 64) u c.with_bit.result 0 other)
    (ap (λ w. word_has w (c.args.k % 64)) here ∙ c.with_bit.ensures.set)
    (λ b small other. ap (λ w. word_has w b) here ∙ c.with_bit.ensures.others b other)
