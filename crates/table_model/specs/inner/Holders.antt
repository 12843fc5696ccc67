-- The holders of groups as the code names them, and which holders of a group a filter selects.
use Rattle.std.specs.Prelude.{List, ◌&&◌, find, not, Bool, false, Option}
use Rattle.std.specs.Option.{option_map_or}
use Rattle.table_model.specs.Groups.{group_at, all_holders, is_pending_in, is_in_progress_in}
use Rattle.table_model.specs.GroupLaw.{same_holder}
use Rattle.table_model.specs.Runs.{RunState}
use Rattle.table_model.specs.declared.holder.HolderFilter.{HolderFilter}
use Rattle.table_model.specs.declared.holder.HolderFilter.TheVariants.{OthersPending, InProgress}
use Rattle.table_model.specs.declared.holder.Holder.{Holder}

-- ---- the holders that a filter selects in the group of a holder

-- whether the filter selects `other`: another holder that is pending there, or one that is in progress there
abbrev pub is_conflicting : List RunState → Holder → HolderFilter → Holder → Bool
is_conflicting runs h OthersPending other = option_map_or (λ g. is_pending_in runs g other && not (same_holder other h)) (group_at runs h) false
is_conflicting runs h InProgress other = option_map_or (λ g. is_in_progress_in runs g other) (group_at runs h) false

-- the first of them in the table
abbrev pub first_conflicting : List RunState → Holder → HolderFilter → Option Holder
first_conflicting runs h holder_filter = find (is_conflicting runs h holder_filter) (all_holders runs)
