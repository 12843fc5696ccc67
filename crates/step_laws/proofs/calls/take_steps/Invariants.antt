use Rattle.std.proofs.Common.{◌≡◌, take}
use Rattle.table_model.specs.Step.{after}
use Rattle.step_laws.proofs.calls.take_steps.Given as goal

-- the commands so far have been carried out
abbrev pub invariant-loop-command : goal.invariant-loop-command
invariant-loop-command l = l.table ≡ after l.initial.table (take l.command-index l.commands)
