use Rattle.std.proofs.Common.{arith, Some, ◌*◌, ◌+◌}
use Rattle.run_marks.proofs.Rows.{first_later, row_found}
use Rattle.run_marks.proofs.Tops.{none_by_tops, passed_by_tops}
use Rattle.run_marks.proofs.levels.first_by_tops.Goals as goal

pub returns-in-Some : goal.returns-in-Some
returns-in-Some c =
    first_later _ (c.args.v * 64) (c.in-Some.top * 64) (Some (c.in-Some.top * 64 + c.lowest_bit.result)) (omega (arith, c.in-Some.ensures.0))
    (passed_by_tops c.args.words.now c.args.tops.now c.args.v c.in-Some.top c.requires c.in-Some.ensures.2)
    (row_found c.args.words.now c.in-Some.top 0 c.lowest_bit.result (c.in-Some.top * 64) (omega arith) (omega arith)
    c.lowest_bit.ensures.small c.lowest_bit.ensures.first)

pub returns-in-None : goal.returns-in-None
returns-in-None c = none_by_tops c.args.words.now c.args.tops.now c.args.v c.requires c.in-None.ensures
