-- The book of a table has exactly the holders that the table has: each slot has the holder that is pending in its group, and the one that is
-- in progress. Each run and each leg knows its group, and memory is taken for each arrival that is to come.
use Rattle.std.specs.Prelude.{◌≡◌, ◌↔◌, ◌≤◌, ◌&&◌, ℕ, List, length, nat_eq, Bool, true, false, sum_by, Some, is_some, option_and_then, slice_get}
use Rattle.std.specs.Option.{option_map_or}
use Rattle.group_book.specs.Books.{BookState, slot_in}
use Rattle.group_book.specs.declared.slot.Slot.{Slot}
use Rattle.group_name.specs.Group.{Group}
use Rattle.table_model.specs.Groups.{cancels_in_progress, group_at, is_in_progress_in, is_pending_in}
use Rattle.table_model.specs.Runs.{job_at, leg_at, run_at, JobState, RunState, is_blocked}
use Rattle.table_model.specs.inner.Resuming.{is_new_at}
use Rattle.table_model.specs.declared.holder.Holder.{Holder}
use Rattle.table_model.specs.declared.holder.Holder.TheVariants.{Run, Leg}
use Rattle.table_model.specs.declared.sites.LegSite.{LegSite}
use Rattle.table_bindings.specs.GroupKeys.{AreLater, arrivals_of, key_in, requests_of, ticket_in}
use Rattle.table_bindings.specs.declared.bindings.RunBindings.{RunBindings}
use Rattle.table_bindings.specs.declared.group_keys.HolderKey.{HolderKey}
use Rattle.table_bindings.specs.declared.group_keys.HolderKey.TheVariants.{Known}
use Rattle.table_bindings.specs.declared.group_keys.KnownGroup.{KnownGroup}
use Rattle.table_runs.specs.inner.RowsKept.{holder_key_at}

-- ---- the holders

pub record AreExact (runs : List RunState) (entries : List (Group × Slot Holder)) : Type 0 where
  pub pending : (g : Group) (h : Holder) → ((slot_in entries g).pending ≡ Some h) ↔ (is_pending_in runs g h ≡ true)
  pub in_progress : (g : Group) (h : Holder) → ((slot_in entries g).in_progress ≡ Some h) ↔ (is_in_progress_in runs g h ≡ true)

-- ---- their groups

abbrev pub is_there : List RunState → Holder → Bool
is_there runs (Run r) = is_some (run_at runs r)
is_there runs (Leg p) = is_some (leg_at runs p)

-- the group of a run or of a leg is known, and whether it has cancel-in-progress
pub record Knows (runs : List RunState) (bindings : List RunBindings) (h : Holder) : Type 0 where
  pub group : option_and_then key_in (holder_key_at bindings h) ≡ group_at runs h
  pub cancels : (known : KnownGroup) → holder_key_at bindings h ≡ Some (Known known) → known.cancels ≡ cancels_in_progress runs h

-- ---- arrivals to come

-- a new leg has the key that it brings to its group
abbrev pub NewLegsHaveTickets : List RunState → List RunBindings → Type 0
NewLegsHaveTickets runs bindings =
    (p : LegSite) → is_new_at runs p ≡ true → option_and_then ticket_in (holder_key_at bindings (Leg p)) ≡ group_at runs (Leg p)

-- a job that is blocked and has no legs yet: memory is taken for those that it will have
abbrev pub is_unopened : JobState → Bool
is_unopened job = is_blocked job.phase && nat_eq (length job.legs) 0

abbrev pub is_blocked_at : List RunState → ℕ → ℕ → Bool
is_blocked_at runs r j = option_map_or is_unopened (job_at runs r j) false

abbrev pub BlockedJobsHaveRoom : List RunState → List RunBindings → Type 0
BlockedJobsHaveRoom runs bindings =
    (r j : ℕ) (kept : RunBindings) (legs : List HolderKey) → is_blocked_at runs r j ≡ true → slice_get bindings r ≡ Some kept
    → slice_get kept.keys.jobs j ≡ Some legs → AreLater (requests_of kept.jobs j) legs

-- there is room for the keys of each job
abbrev pub AreShaped : List RunBindings → Type 0
AreShaped bindings = (r : ℕ) (kept : RunBindings) → slice_get bindings r ≡ Some kept → length kept.keys.jobs ≡ length kept.jobs

-- what each run and each leg that its job has knows
pub record AreTold (runs : List RunState) (bindings : List RunBindings) : Type 0 where
  pub groups : (h : Holder) → is_there runs h ≡ true → Knows runs bindings h
  pub tickets : NewLegsHaveTickets runs bindings
  pub room : BlockedJobsHaveRoom runs bindings
  pub shaped : AreShaped bindings

abbrev pub arrivals_to_come : List RunBindings → ℕ
arrivals_to_come = sum_by (λ kept. arrivals_of kept.keys)

pub record GroupsAreKept (runs : List RunState) (bindings : List RunBindings) (book : BookState Holder) : Type 0 where
  pub exact : AreExact runs book.entries
  pub told : AreTold runs bindings
  pub expected : arrivals_to_come bindings ≤ book.expected
