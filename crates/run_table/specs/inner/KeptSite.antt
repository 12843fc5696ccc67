-- The site of the leg that a runner's last claim was given, as it is kept with the reply, where the runs with ids through this one are
-- forgotten. In the attempt in which the lease was granted, the leg at that site has the lease. The site does not say whether the runner
-- still holds the lease.
use Rattle.std.specs.Prelude.{ℕ, ◌+◌, ◌-◌, Option, Some, None}
use Rattle.run_plan.specs.declared.last_command.LastCommand.{LastCommand}
use Rattle.run_plan.specs.declared.last_command.LastCommand.TheVariants as last
use Rattle.run_plan.specs.declared.last_command.ClaimReply.TheVariants as given
use Rattle.table_model.specs.Runs.{leg_site}
use Rattle.table_model.specs.declared.sites.LegSite.{LegSite}

abbrev pub kept_site : ℕ → LastCommand → Option LegSite
kept_site through (last.Claim claim given.Nothing) = None
kept_site through (last.Claim claim (given.Lease kept)) =
    Some (leg_site (kept.lease_reply.run - (through + 1)) kept.job kept.lease_reply.leg)
kept_site through (last.Done report) = None
