-- What is bound for a run that has just been added, or that begins its next attempt: the groups of the run itself and of the legs that it has
-- already are decided, and memory is taken for all others.
use Rattle.std.specs.Prelude.{◌≡◌, ◌≤◌, ◌<◌, ◌&&◌, ◌++◌, ◌∷◌, ℕ, List, [], length, map, nat_lt, Bool, true, false, option_and_then, slice_get, Some}
use Rattle.std.specs.Prelude.{Result, Ok, Err}
use Rattle.std.specs.Option.{option_map_or}
use Rattle.group_book.specs.Books.{BookState}
use Rattle.table_model.specs.Groups.{group_at}
use Rattle.table_model.specs.Holders.{run_of}
use Rattle.table_model.specs.Runs.{RunState}
use Rattle.table_model.specs.declared.holder.Holder.{Holder}
use Rattle.table_bindings.specs.BoundGroups.{results_by_index}
use Rattle.table_bindings.specs.GroupKeys.{AreLater, decided, requests_of, ticket_in}
use Rattle.table_bindings.specs.declared.bindings.RunBindings.{RunBindings}
use Rattle.table_bindings.specs.declared.group_keys.HolderKey.{HolderKey}
use Rattle.table_bindings.specs.declared.group_keys.HolderKey.TheVariants.{NoGroup}
use Rattle.table_runs.specs.inner.GroupsKept.{AreTold, arrivals_to_come, is_there}
use Rattle.table_runs.specs.inner.RowsKept.{RowState, holder_key_at}

abbrev pub has_legs_at : RunState → ℕ → Bool
has_legs_at run j = option_map_or (λ job. nat_lt 0 (length job.legs)) (slice_get run.jobs j) false

abbrev pub AreKnownIf : Bool → RunState → RunBindings → ℕ → List HolderKey → Type 0
AreKnownIf true run kept j legs = legs ≡ map (decided (results_by_index run)) (requests_of kept.jobs j)
AreKnownIf false run kept j legs = AreLater (requests_of kept.jobs j) legs

-- so far: the jobs below `n` that have legs are decided
pub record IsBegunBelow (n : ℕ) (run : RunState) (kept : RunBindings) : Type 0 where
  pub own : kept.keys.own ≡ option_map_or (decided (results_by_index run)) kept.own NoGroup
  pub as_many : length kept.keys.jobs ≡ length kept.jobs
  pub jobs : (j : ℕ) (legs : List HolderKey) → slice_get kept.keys.jobs j ≡ Some legs
      → AreKnownIf (has_legs_at run j && nat_lt j n) run kept j legs

pub record IsBegun (run : RunState) (kept : RunBindings) : Type 0 where
  pub own : kept.keys.own ≡ option_map_or (decided (results_by_index run)) kept.own NoGroup
  pub as_many : length kept.keys.jobs ≡ length kept.jobs
  pub jobs : (j : ℕ) (legs : List HolderKey) → slice_get kept.keys.jobs j ≡ Some legs → AreKnownIf (has_legs_at run j) run kept j legs

-- each holder of a run has the key that it brings to its group
abbrev pub HaveTickets : ℕ → List RunState → List RunBindings → Type 0
HaveTickets r runs bindings =
    (h : Holder) → run_of h ≡ r → is_there runs h ≡ true → option_and_then ticket_in (holder_key_at bindings h) ≡ group_at runs h

-- ---- a run is added at the end

pub record HasAdded (run : RunState) (was now : RowState) (before after : BookState Holder) : Type 0 where
  pub runs : now.runs ≡ was.runs ++ run ∷ []
  pub entries : after.entries ≡ before.entries
  pub told : AreTold was.runs was.bindings → AreTold now.runs now.bindings
  pub tickets : HaveTickets (length was.runs) now.runs now.bindings
  pub older : (r : ℕ) → r < length was.runs → slice_get now.bindings r ≡ slice_get was.bindings r
  pub expected : arrivals_to_come was.bindings ≤ before.expected → arrivals_to_come now.bindings ≤ after.expected

pub record AreAsBefore (was now : RowState) (before after : BookState Holder) : Type 0 where
  pub rows : now ≡ was
  pub book : after ≡ before

-- it is added, or nothing has changed
abbrev pub AddsOrStays : {X E : Type 0} → Result X E → RunState → RowState → RowState → BookState Holder → BookState Holder → Type 0
AddsOrStays (Ok x) run was now before after = HasAdded run was now before after
AddsOrStays (Err e) run was now before after = AreAsBefore was now before after
