-- When a numbered command repeats the runner's last one, byte for byte and with its labels in the same order, and the reply that it
-- then gets. This is defined by this project.
use Rattle.std.specs.Prelude.{◌&&◌, Bool, true, false, nat_eq}
use Rattle.std.specs.Cmp.Lexicographic.{pointwise}
use Rattle.std.specs.Str.{bytes_eq}
use Rattle.wf_value.specs.declared.outcome.Outcome.{Outcome}
use Rattle.wf_value.specs.declared.outcome.Outcome.TheVariants as outcome
use Rattle.run_plan.specs.declared.command.Claim.{Claim}
use Rattle.run_plan.specs.declared.command.Done.{Done}
use Rattle.run_plan.specs.declared.last_command.ClaimReply.TheVariants as claimed
use Rattle.run_plan.specs.declared.last_command.LastCommand.{LastCommand}
use Rattle.run_plan.specs.declared.last_command.LastCommand.TheVariants as last
use Rattle.run_plan.specs.declared.reply.Reply.{Reply}
use Rattle.run_plan.specs.declared.reply.Reply.TheVariants as reply

abbrev pub same_outcomes : Outcome → Outcome → Bool
same_outcomes outcome.Success outcome.Success = true
same_outcomes outcome.Failure outcome.Failure = true
same_outcomes outcome.Cancelled outcome.Cancelled = true
same_outcomes a b = false

abbrev pub same_claims : Claim → Claim → Bool
same_claims a b = bytes_eq a.runner b.runner && nat_eq a.number b.number && pointwise bytes_eq a.labels b.labels

abbrev pub same_reports : Done → Done → Bool
same_reports a b = bytes_eq a.runner b.runner && nat_eq a.number b.number && nat_eq a.lease b.lease && same_outcomes a.result b.result

abbrev pub is_last_claim : Claim → LastCommand → Bool
is_last_claim claim (last.Claim earlier given) = same_claims earlier claim
is_last_claim claim (last.Done earlier) = false

abbrev pub is_last_report : Done → LastCommand → Bool
is_last_report done (last.Claim earlier given) = false
is_last_report done (last.Done earlier) = same_reports earlier done

abbrev pub kept_reply : LastCommand → Reply
kept_reply (last.Claim claim claimed.Nothing) = reply.Nothing
kept_reply (last.Claim claim (claimed.Lease kept)) = reply.Lease kept.lease_reply
kept_reply (last.Done done) = reply.Ok
