use Rattle.std.proofs.lemmas.Bool.Decides.{same_from_decides}
use Rattle.run_plan.proofs.SameCommands.{reports_decide}
use Rattle.run_plan.proofs.last_command.LastCommand.is_report.Goals as goal

pub returns-in-Done : goal.returns-in-Done
returns-in-Done c = rw c.in-Done.is (same_from_decides _ _ c.same.ensures (reports_decide c.in-Done.last c.args.done.now))
