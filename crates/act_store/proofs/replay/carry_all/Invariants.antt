use Rattle.std.proofs.Common.{◌≡◌, drop}
use Rattle.table_model.specs.Step.{after}
use Rattle.act_store.proofs.replay.carry_all.Given as goal

-- what is left leads on to the end
abbrev pub invariant-loop-command : goal.invariant-loop-command
invariant-loop-command l = after l.table (drop l.command-index l.commands) ≡ after l.fn.first l.commands
