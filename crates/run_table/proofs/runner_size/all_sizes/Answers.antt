use Rattle.std.proofs.Common.{◌≤◌, ◌∙◌, arith, length}
use Rattle.run_table.proofs.RunnerSizes.{below_most, sized_all, sized_more, sized_none}
use Rattle.run_table.proofs.runner_size.all_sizes.Goals as goal

pub loop-runner-init : goal.loop-runner-init
loop-runner-init c = sized_none c.args.runners.now

pub loop-runner-preserved : goal.loop-runner-preserved
loop-runner-preserved c =
    sized_more c.args.runners.now c.loop-runner.runner-index c.loop-runner.total c.from-total.result c.runner-item.result
    c.loop-runner-test.true c.runner-item.is (c.from-total.ensures ∙ c.text_size.ensures.size)
    (omega (arith, c.from-total.ensures, c.text_size.ensures.most)) c.loop-runner.invariant

pub returns : goal.returns
returns c = sized_all c.args.runners.now c.loop-runner.runner-index c.loop-runner.total (omega arith) c.loop-runner.invariant

pub overflow_add-total : goal.overflow_add-total
overflow_add-total c =
    let runners = c.args.runners.now in
    let below : c.loop-runner.runner-index ≤ length runners = omega arith in
    omega (
      arith,
      below_most runners c.loop-runner.runner-index c.loop-runner.total below c.loop-runner.invariant,
      c.from-total.ensures,
      c.text_size.ensures.most,
    )
