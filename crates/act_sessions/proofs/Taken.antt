-- The turn of a command that was submitted.
use Rattle.std.proofs.Common.{ℕ, Bool}
use Rattle.std.specs.Prelude.{IfSome, Option, Some, None}
use Rattle.run_plan.specs.declared.command.Command.{Command}
use Rattle.act_sessions.specs.declared.turn_text.TurnText.{TurnText}
use Rattle.act_sessions.specs.Exchange.{Response}
use Rattle.act_sessions.specs.Rules.{Answered, Rules}
use Rattle.act_sessions.specs.Taking.{IsText, TakesCommand}

pub command_taken : {F : Type 0} (p : Rules F) (n : ℕ) (submits : Option Response → Type 0) (c : Command) (closes : Bool) (answer : Response) (text : Option TurnText)
    → submits (Some answer) → IfSome text (IsText p n (Answered c closes answer)) → TakesCommand p submits n c closes text
command_taken p n submits c closes answer (Some text) submitted is = (answer, submitted, is)
command_taken p n submits c closes answer None submitted is = (Some answer, submitted)
