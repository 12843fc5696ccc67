use Rattle.std.proofs.Common.{arith}
use Rattle.std.proofs.lemmas.Grind.{common_steps}
use Rattle.run_plan.proofs.Numbers.{one_digit_more, decimal_most}
use Rattle.run_plan.proofs.decimal.value_of.Goals as goal

pub overflow_mul-value : goal.overflow_mul-value
overflow_mul-value c =
    let more = one_digit_more c.args.digits.now c.loop-b.b-index c.requires (omega arith) in
    omega (arith, more.value, more.most, c.loop-b.invariant)

pub overflow_add-value : goal.overflow_add-value
overflow_add-value c =
    let more = one_digit_more c.args.digits.now c.loop-b.b-index c.requires (omega arith) in
    omega (arith, more.value, more.most, more.digit, c.loop-b.invariant, c.from.ensures)

pub loop-b-preserved : goal.loop-b-preserved
loop-b-preserved c =
    let more = one_digit_more c.args.digits.now c.loop-b.b-index c.requires (omega arith) in
    omega (arith, more.value, more.digit, c.loop-b.invariant, c.from.ensures)

pub returns-clause-most : goal.returns-clause-most
returns-clause-most c = grind (arith, common_steps, decimal_most c.args.digits.now c.requires, c.loop-b.invariant)
