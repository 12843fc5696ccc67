-- What is stored of a table. Of the forgotten runs, it is all that the table keeps of them. Of a run, it is all but its id and its number,
-- which follow from its place and from the forgotten runs. Of a lease that is kept as a reply, it is the number and the site with the attempt.
-- The rest, the job's id and the combination, follows from the runs.
use Rattle.std.specs.Prelude.{ℕ, List, map, Option, Some, None}
use Rattle.run_plan.specs.declared.last_command.ClaimReply.TheVariants as given
use Rattle.run_plan.specs.declared.last_command.KeptLease.{KeptLease}
use Rattle.run_plan.specs.declared.last_command.LastCommand.{LastCommand}
use Rattle.run_plan.specs.declared.last_command.LastCommand.TheVariants as last
use Rattle.table_model.specs.Forgotten.{ForgottenRuns}
use Rattle.table_model.specs.Parts.{RunParts, stored_run}
pub use Rattle.table_model.specs.Runs.{is_new}
use Rattle.table_model.specs.TableState.{RunnerState, TableState}
use Rattle.stored_tables.specs.declared.parts.LastParts.{LastParts}
use Rattle.stored_tables.specs.declared.parts.LastParts.TheVariants as stored
use Rattle.stored_tables.specs.declared.parts.StoredLease.{StoredLease}
use Rattle.stored_tables.specs.declared.parts.StoredSite.{StoredSite}

-- a runner: its last numbered command with the lease that it was granted, and the lease that it holds
pub record RunnerParts : Type 0 where
  pub name : List ℕ
  pub number : ℕ
  pub last : LastParts
  pub holds : Option ℕ

pub record TableParts : Type 0 where
  pub last_lease : ℕ
  pub forgotten : ForgottenRuns
  pub runs : List RunParts
  pub runners : List RunnerParts

-- ---- from a table

abbrev pub stored_site : KeptLease → StoredSite
stored_site kept = record { run = kept.lease_reply.run; attempt = kept.attempt; job = kept.job; leg = kept.lease_reply.leg }

abbrev pub stored_lease : KeptLease → StoredLease
stored_lease kept = record { lease = kept.lease_reply.lease; place = Some (stored_site kept) }

abbrev pub stored_last : LastCommand → LastParts
stored_last (last.Claim claim given.Nothing) = stored.Claim claim None
stored_last (last.Claim claim (given.Lease kept)) = stored.Claim claim (Some (stored_lease kept))
stored_last (last.Done report) = stored.Done report

abbrev pub stored_runner : RunnerState → RunnerParts
stored_runner r = record { name = r.name; number = r.number; last = stored_last r.last; holds = r.holds }

abbrev pub stored_table : TableState → TableParts
stored_table t = record {
  last_lease = t.last_lease;
  forgotten = t.forgotten;
  runs = map stored_run t.runs;
  runners = map stored_runner t.runners;
}
