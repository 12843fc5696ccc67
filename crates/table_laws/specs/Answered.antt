-- Which leases were answers to claims.
use Rattle.std.specs.Prelude.{◌≡◌, ℕ, List, slice_get, Some}
use Rattle.run_plan.specs.declared.command.Claim.{Claim as Claimed}
use Rattle.run_plan.specs.declared.command.Command.{Command}
use Rattle.run_plan.specs.declared.command.Command.TheVariants as command
use Rattle.run_plan.specs.declared.reply.Lease.{Lease as Leased}
use Rattle.run_plan.specs.declared.reply.Reply.{Reply}
use Rattle.run_plan.specs.declared.reply.Reply.TheVariants as reply

-- some claim among the commands was answered with this lease
abbrev pub WasAnswered : List Command → List Reply → Leased → Type 0
WasAnswered commands replies lease =
    (k : ℕ) × (claim : Claimed) × (slice_get commands k ≡ Some (command.Claim claim)) × (slice_get replies k ≡ Some (reply.Lease lease))
