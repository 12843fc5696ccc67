use Rattle.step_laws.proofs.After.{after_step}
use Rattle.step_laws.proofs.calls.take_steps.Goals as goal

pub loop-command-preserved : goal.loop-command-preserved
loop-command-preserved c =
    after_step _ _ _ c.args.commands.now c.loop-command.command-index _ _ _ c.loop-command-test.true c.loop-command.invariant
    c.command-item.is c.in_ok-step.ensures.step
