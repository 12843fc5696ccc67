-- A newcomer that waits and is not in the book yet. The book has all others.
use Rattle.std.specs.Prelude.{◌≡◌, ◌↔◌, ◌≤◌, ◌&&◌, List, not, Bool, true, Option, Some, option_and_then}
use Rattle.std.specs.Option.{option_map_or}
use Rattle.group_book.specs.Books.{BookState, slot_in}
use Rattle.group_book.specs.declared.slot.Slot.{Slot}
use Rattle.group_name.specs.Group.{Group}
use Rattle.table_model.specs.Groups.{group_at, is_in, is_in_progress_in, waits}
use Rattle.table_model.specs.GroupLaw.{same_holder}
use Rattle.table_model.specs.inner.Holders.{first_conflicting}
use Rattle.table_model.specs.Runs.{RunState}
use Rattle.table_model.specs.Stops.{stop_holder}
use Rattle.table_model.specs.declared.holder.Holder.{Holder}
use Rattle.table_model.specs.declared.holder.HolderFilter.{HolderFilter}
use Rattle.table_bindings.specs.GroupKeys.{ticket_in}
use Rattle.table_bindings.specs.declared.bindings.RunBindings.{RunBindings}
use Rattle.table_runs.specs.inner.GroupsKept.{AreTold, arrivals_to_come}
use Rattle.table_runs.specs.inner.RowsKept.{holder_key_at}

-- whether a holder waits, and is another one
abbrev pub waits_beside : Holder → List RunState → Holder → Bool
waits_beside one runs h = waits runs h && not (same_holder h one)

pub record ExactBeside (one : Holder) (runs : List RunState) (entries : List (Group × Slot Holder)) : Type 0 where
  pub pending : (g : Group) (h : Holder) → ((slot_in entries g).pending ≡ Some h) ↔ ((is_in runs g h && waits_beside one runs h) ≡ true)
  pub in_progress : (g : Group) (h : Holder) → ((slot_in entries g).in_progress ≡ Some h) ↔ (is_in_progress_in runs g h ≡ true)

pub record KeptBeside (one : Holder) (runs : List RunState) (bindings : List RunBindings) (book : BookState Holder) : Type 0 where
  pub exact : ExactBeside one runs book.entries
  pub told : AreTold runs bindings
  pub ticket : option_and_then ticket_in (holder_key_at bindings one) ≡ group_at runs one
  pub expected : arrivals_to_come bindings ≤ book.expected

-- a holder is stopped, if there is one
abbrev pub stopped_if : Option Holder → List RunState → List RunState
stopped_if one runs = option_map_or (λ h. (stop_holder h runs).runs) one runs

-- the first holder that conflicts with a newcomer is stopped
abbrev pub with_first_stopped : List RunState → Holder → HolderFilter → List RunState
with_first_stopped runs newcomer holder_filter = stopped_if (first_conflicting runs newcomer holder_filter) runs
