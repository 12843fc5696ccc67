-- What a service keeps of itself while its history goes on.
use Rattle.std.specs.Prelude.{◌≡◌, ◌⊎◌, ℕ, ◌==◌, List, [], ◌∷◌, ◌++◌, map, drop, take, Bool, true, false, Option, None, Some, if◌then◌else◌}
use Rattle.std.specs.HashMap.{get_by_text}
use Rattle.std.specs.Option.{option_map_or}
use Rattle.std.specs.Str.{bytes_eq}
use Rattle.std.specs.declared.time.Instant.{Instant}
use Rattle.run_plan.specs.declared.command.Command.{Command}
use Rattle.run_plan.specs.declared.command.Command.TheVariants as command
use Rattle.run_plan.specs.declared.reply.Reply.{Reply}
use Rattle.run_plan.specs.declared.reply.Reply.TheVariants as reply
use Rattle.act_store.specs.StoreState.{StoreState, table_of}
use Rattle.act_store.specs.declared.entry.Entry.{Entry}
use Rattle.table_model.specs.TableState.{TableState}
use Rattle.covered_log.specs.LogState.{new_log}
use Rattle.covered_log.specs.Standings.{standings_of}
use Rattle.service_metrics.specs.Counters.{CountersState, Done, counters_of, nothing_done}
use Rattle.service_views.specs.FirstRuns.{first_run_after, first_run_of}
use Rattle.service_views.specs.Following.{TakesUp, Tells}
use Rattle.service_views.specs.GivenLeases.{NotesOf, none_since}
use Rattle.service_views.specs.declared.kept.Kept.{Kept}

-- ---- what is counted

abbrev pub with_entries : Done → List Entry → Done
with_entries done entries = record { replies = done.replies ++ map (λ e. e.reply) entries; commits = done.commits }

-- each of these entries is counted once
abbrev pub Counts : List Entry → CountersState → CountersState → Type 0
Counts entries old new = (done : Done) → old ≡ counters_of done → new ≡ counters_of (with_entries done entries)

-- ---- who was heard

-- the runner that a command comes from
abbrev pub runner_of : Command → Option (List ℕ)
runner_of (command.Claim claim) = Some claim.runner
runner_of (command.Done done) = Some done.runner
runner_of (command.Beat beat) = Some beat.runner
runner_of _ = None

abbrev pub comes_from : List ℕ → Entry → Bool
comes_from name e = option_map_or (λ runner. bytes_eq runner name) (runner_of e.command) false

-- whether an entry discharges a runner
abbrev pub is_discharged : List ℕ → Command → Reply → Bool
is_discharged name (command.Discharge runner) reply.Ok = bytes_eq runner name
is_discharged name _ _ = false

-- When a runner was last heard: now if it is heard, else as before. Without memory one that was never heard before stays unknown.
abbrev pub HeardAt : Bool → Instant → Option Instant → Option Instant → Type 0
HeardAt true now old new = (new ≡ Some now) ⊎ ((old ≡ None) × (new ≡ None))
HeardAt false now old new = new ≡ old

-- the same, but it is not known of a runner that is discharged
abbrev pub HeardOrNot : Bool → Bool → Instant → Option Instant → Option Instant → Type 0
HeardOrNot true heard now old new = new ≡ None
HeardOrNot false heard now old new = HeardAt heard now old new

-- the same after an entry
abbrev pub HeardBy : Instant → List ℕ → Entry → Option Instant → Option Instant → Type 0
HeardBy now name e old new = HeardOrNot (is_discharged name e.command e.reply) (comes_from name e) now old new

-- after entries, one after the other
abbrev pub HeardAfter : Instant → List ℕ → List Entry → Option Instant → Option Instant → Type 0
HeardAfter now name [] old new = new ≡ old
HeardAfter now name (e ∷ es) old new = (mid : Option Instant) × HeardBy now name e old mid × HeardAfter now name es mid new

-- those are heard, and no others, from which one of these entries comes, and those that are discharged are no longer known
abbrev pub Hears : List Entry → Instant → Kept → Kept → Type 0
Hears entries now old new = (name : List ℕ) → HeardAfter now name entries (get_by_text old.heard name) (get_by_text new.heard name)

-- ---- what is kept

-- these entries are counted, and those heard from which they come
pub record Notes (entries : List Entry) (now : Instant) (old new : Kept) : Type 0 where
  pub counts : Counts entries old.counters new.counters
  pub hears : Hears entries now old new
  pub changes : new.changes ≡ old.changes
  pub began : new.began ≡ old.began
  pub first : new.first ≡ old.first

-- the entries of a store that were made durable after so many
abbrev pub covered_after : {D : Type 0} → ℕ → StoreState D → List Entry
covered_after taken s = drop taken (take s.covered s.history)

-- what a service that begins now with a table keeps
pub record Begins (process : ℕ) (t : TableState) (now : Instant) (k : Kept) : Type 0 where
  pub log : k.changes.log ≡ new_log process
  pub standings : k.changes.standings ≡ Some (standings_of t)
  pub leases : k.changes.leases ≡ none_since t.last_lease
  pub taken : k.changes.taken ≡ 0
  pub counters : k.counters ≡ counters_of nothing_done
  pub began : k.began ≡ now
  pub first : k.first ≡ first_run_of t now
  pub heard : (name : List ℕ) → get_by_text k.heard name ≡ None

-- what was made durable since the last time is told, with the time of its commit, counted and heard
pub record GoesOn {D : Type 0} (s : StoreState D) (at : ℕ) (now : Instant) (old new : Kept) : Type 0 where
  pub entered : TakesUp (covered_after old.changes.taken s) old.changes.log new.changes.log
  pub told : (s.covered ≡ old.changes.taken) ⊎ Tells at (table_of s) (covered_after old.changes.taken s) old.changes new.changes
  pub leases : NotesOf (covered_after old.changes.taken s) old.changes.leases new.changes.leases
  pub taken : new.changes.taken ≡ s.covered
  pub counts : Counts (covered_after old.changes.taken s) old.counters new.counters
  pub hears : Hears (covered_after old.changes.taken s) now old new
  pub first : new.first ≡ (if s.covered == old.changes.taken then old.first else first_run_after (table_of s) now old.first)
  pub began : new.began ≡ old.began
