use Rattle.std.proofs.lemmas.Bool.Decides.{same_from_decides}
use Rattle.run_plan.proofs.SameCommands.{claims_decide}
use Rattle.run_plan.proofs.last_command.LastCommand.is_claim.Goals as goal

pub returns-in-Claim : goal.returns-in-Claim
returns-in-Claim c = rw c.in-Claim.is (same_from_decides _ _ c.same.ensures (claims_decide c.in-Claim.last c.args.claim.now))
