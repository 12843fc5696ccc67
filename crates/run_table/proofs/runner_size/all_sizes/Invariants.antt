use Rattle.run_table.proofs.RunnerSizes.{AreSizedBelow}
use Rattle.run_table.proofs.runner_size.all_sizes.Given as goal

abbrev pub invariant-loop-runner : goal.invariant-loop-runner
invariant-loop-runner l = AreSizedBelow l.runners l.runner-index l.total
