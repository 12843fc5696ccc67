use Rattle.std.proofs.Common.{arith, ◌+◌, ◌*◌, ◌/◌, ◌%◌}
use Rattle.run_marks.proofs.Rows.{first_later, past_row, row_found, word_passed}
use Rattle.run_marks.proofs.levels.first_marked.Goals as goal

pub returns-in-Some : goal.returns-in-Some
returns-in-Some c =
    row_found c.args.words.now (c.args.from / 64) (c.args.from % 64) c.in-Some.bit c.args.from (omega arith) (omega arith)
    c.in-Some.ensures.small c.in-Some.ensures.first

pub returns-in-None : goal.returns-in-None
returns-in-None c =
    first_later _ c.args.from ((c.args.from / 64 + 1) * 64) c.first_by_tops.result (omega arith)
    (word_passed c.args.words.now (c.args.from / 64) (c.args.from % 64) c.args.from (omega arith) c.in-None.ensures.first)
    c.first_by_tops.ensures

pub returns-then-v-words : goal.returns-then-v-words
returns-then-v-words c = λ i from. past_row c.args.words.now i (omega (arith, from))
