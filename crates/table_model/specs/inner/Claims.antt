-- Which commands are claims. Of the commands that change a table, only a claim has a reply with text.
use Rattle.std.specs.Prelude.{Bool, true, false}
use Rattle.run_plan.specs.declared.command.Command.{Command}
use Rattle.run_plan.specs.declared.command.Command.TheVariants as command

abbrev pub is_claim : Command → Bool
is_claim (command.Claim claim) = true
is_claim _ = false
