-- The leases that are given to runners while a service goes on.
use Rattle.std.specs.Prelude.{◌≡◌, ◌⊎◌, ℕ, List, [], ◌∷◌, Option, None, Some, nat_lt, if◌then◌else◌}
use Rattle.std.specs.Option.{option_map_or}
use Rattle.run_plan.specs.declared.command.Claim.{Claim}
use Rattle.run_plan.specs.declared.command.Command.{Command}
use Rattle.run_plan.specs.declared.command.Command.TheVariants as command
use Rattle.run_plan.specs.declared.reply.Lease.{Lease}
use Rattle.run_plan.specs.declared.reply.Reply.{Reply}
use Rattle.run_plan.specs.declared.reply.Reply.TheVariants as reply
use Rattle.act_store.specs.declared.entry.Entry.{Entry}
use Rattle.table_views.specs.LeaseNames.{NamesState, no_names, noted}

-- the last lease that was given, and the runners of those that were given since the service began, as far as they are known
pub record LeasesState : Type 0 where
  pub last : ℕ
  pub names : NamesState

-- a service begins after this lease
abbrev pub none_since : ℕ → LeasesState
none_since last = record { last = last; names = no_names }

abbrev pub claim_of : Command → Option Claim
claim_of (command.Claim claim) = Some claim
claim_of _ = None

abbrev pub lease_of : Reply → Option Lease
lease_of (reply.Lease lease) = Some lease
lease_of _ = None

-- A claim was answered with a lease. It is given if it is new: one of an earlier claim is only told again.
abbrev pub given : LeasesState → ℕ → List ℕ → LeasesState
given s lease runner = if nat_lt s.last lease then record { last = lease; names = noted s.names lease runner } else s

-- the leases after an entry
abbrev pub given_by : Entry → LeasesState → LeasesState
given_by e s = option_map_or (λ claim. option_map_or (λ lease. given s lease.lease claim.runner) (lease_of e.reply) s) (claim_of e.command) s

-- The runner of a new lease is noted, or without memory no runner is known any more.
abbrev pub NoteOf : Entry → LeasesState → LeasesState → Type 0
NoteOf e old new = (new ≡ given_by e old) ⊎ (new ≡ none_since (given_by e old).last)

-- the leases after entries, one after the other
abbrev pub NotesOf : List Entry → LeasesState → LeasesState → Type 0
NotesOf [] old new = new ≡ old
NotesOf (e ∷ es) old new = (mid : LeasesState) × NoteOf e old mid × NotesOf es mid new
