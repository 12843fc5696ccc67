-- The table of stored parts: the sound table that is stored as these parts, if there is one.
use Rattle.std.specs.Prelude.{◌≡◌, ℕ, List, length, map, Option, Some, None, slice_get}
use Rattle.run_plan.specs.declared.last_command.ClaimReply.{ClaimReply}
use Rattle.run_plan.specs.declared.last_command.ClaimReply.TheVariants as given
use Rattle.run_plan.specs.declared.last_command.KeptLease.{KeptLease}
use Rattle.run_plan.specs.declared.last_command.LastCommand.{LastCommand}
use Rattle.run_plan.specs.declared.last_command.LastCommand.TheVariants as last
use Rattle.table_model.specs.Parts.{stored_run}
use Rattle.table_model.specs.Runs.{RunState}
use Rattle.table_model.specs.Sound.{IsOfALeg, IsSound}
use Rattle.stored_tables.specs.Stored.{RunnerParts, TableParts, stored_site}
use Rattle.table_model.specs.TableState.{RunnerState, TableState}
use Rattle.stored_tables.specs.declared.parts.LastParts.{LastParts}
use Rattle.stored_tables.specs.declared.parts.LastParts.TheVariants as stored
use Rattle.stored_tables.specs.declared.parts.StoredLease.{StoredLease}
use Rattle.stored_tables.specs.declared.parts.StoredSite.{StoredSite}

-- ---- kept leases

-- the lease has the stored site; if none is stored, the lease is of its run's current attempt, so a leg has it
abbrev pub IsPlacedAs : RunState → Option StoredSite → KeptLease → Type 0
IsPlacedAs run None kept = kept.attempt ≡ run.attempt
IsPlacedAs run (Some site) kept = stored_site kept ≡ site

pub record IsLeaseAs (most : ℕ) (runs : List RunState) (parts : StoredLease) (kept : KeptLease) : Type 0 where
  pub lease : kept.lease_reply.lease ≡ parts.lease
  pub is_of_a_leg : IsOfALeg most runs kept
  pub place : IsPlacedAs is_of_a_leg.run parts.place kept

-- ---- runners

-- the reply that the stored lease describes, or no lease
abbrev pub IsReplyAs : ℕ → List RunState → Option StoredLease → ClaimReply → Type 0
IsReplyAs most runs None given.Nothing = Unit {0}
IsReplyAs most runs None (given.Lease kept) = ⊥
IsReplyAs most runs (Some parts) given.Nothing = ⊥
IsReplyAs most runs (Some parts) (given.Lease kept) = IsLeaseAs most runs parts kept

abbrev pub IsLastAs : ℕ → List RunState → LastParts → LastCommand → Type 0
IsLastAs most runs (stored.Claim claim given) (last.Claim other reply) = (other ≡ claim) × IsReplyAs most runs given reply
IsLastAs most runs (stored.Claim claim given) (last.Done report) = ⊥
IsLastAs most runs (stored.Done report) (last.Claim claim reply) = ⊥
IsLastAs most runs (stored.Done report) (last.Done other) = other ≡ report

pub record IsRunnerAs (most : ℕ) (runs : List RunState) (parts : RunnerParts) (x : RunnerState) : Type 0 where
  pub name : x.name ≡ parts.name
  pub number : x.number ≡ parts.number
  pub last : IsLastAs most runs parts.last x.last
  pub holds : x.holds ≡ parts.holds

-- each at its index
pub record AreRunnersAs (most : ℕ) (runs : List RunState) (parts : List RunnerParts) (runners : List RunnerState) : Type 0 where
  pub as_many : length runners ≡ length parts
  pub each : (k : ℕ) (part : RunnerParts) (x : RunnerState) → slice_get parts k ≡ Some part → slice_get runners k ≡ Some x
      → IsRunnerAs most runs part x

-- ---- the table of the parts

pub record IsStoredAs (parts : TableParts) (t : TableState) : Type 0 where
  pub is_sound : IsSound t
  pub last_lease : t.last_lease ≡ parts.last_lease
  pub forgotten : t.forgotten ≡ parts.forgotten
  pub runs : map stored_run t.runs ≡ parts.runs
  pub runners : AreRunnersAs t.last_lease t.runs parts.runners t.runners

-- no table is stored so
abbrev pub IsNoTable : TableParts → Type 0
IsNoTable parts = (t : TableState) → IsStoredAs parts t → ⊥
