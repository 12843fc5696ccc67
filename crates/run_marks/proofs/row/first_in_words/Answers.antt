use Rattle.std.proofs.Common.{arith, inl, inr, Some, ◌+◌, ◌*◌}
use Rattle.std.proofs.lemmas.Bool.{cases_lt}
use Rattle.run_marks.proofs.Rows.{first_later, past_row, row_found, word_passed}
use Rattle.run_marks.proofs.row.first_in_words.Goals as goal

pub loop-v-init : goal.loop-v-init
loop-v-init c = λ i from to. absurd (omega (arith, from, to))

pub returns-in-Some : goal.returns-in-Some
returns-in-Some c =
    first_later _ (c.args.start * 64) (c.loop-v.v * 64) (Some (c.loop-v.v * 64 + c.in-Some.bit)) (omega arith) c.loop-v.invariant
    (row_found c.args.words.now c.loop-v.v 0 c.in-Some.bit (c.loop-v.v * 64) (omega arith) (omega arith) c.in-Some.ensures.small
    c.in-Some.ensures.first)

pub loop-v-preserved : goal.loop-v-preserved
loop-v-preserved c = λ i from to.
    elim (cases_lt i (c.loop-v.v * 64)) [
      | inl before ↦ c.loop-v.invariant i from before
      | inr here ↦ word_passed c.args.words.now c.loop-v.v 0 (c.loop-v.v * 64) (omega arith) c.in_default.ensures.first i here (omega (arith, to))
    ]

pub returns : goal.returns
returns c = λ i from.
    elim (cases_lt i (c.loop-v.v * 64)) [
      | inl before ↦ c.loop-v.invariant i from before
      | inr here ↦ past_row c.args.words.now i (omega (arith, here))
    ]
