-- The runs and legs that hold concurrency groups or wait for them, each with its group.
use Rattle.std.specs.Prelude.{ℕ, List, [], filter_map, take, Option, option_map, slice_get, if◌then◌else◌}
use Rattle.std.specs.List.{list_any}
use Rattle.std.specs.Option.{option_map_or}
use Rattle.group_name.specs.Group.{Group, same_group}
use Rattle.table_model.specs.Groups.{all_holders}
use Rattle.table_model.specs.Runs.{RunState}
use Rattle.table_views.specs.GroupLines.{group_in_use}
use Rattle.table_views.specs.declared.claim.GroupClaim.{GroupClaim}
use Rattle.table_model.specs.declared.holder.Holder.{Holder}

abbrev pub claim_of : List RunState → Holder → Option (Group × Holder)
claim_of runs h = option_map (λ g. (g, h)) (group_in_use runs h)

-- in the order of all runs, then all legs
abbrev pub claims_of : List RunState → List (Group × Holder)
claims_of runs = filter_map (claim_of runs) (all_holders runs)

-- a claim as the code keeps it
abbrev pub said : GroupClaim → Group × Holder
said claim = (claim.group, claim.holder)

-- the line of the group at an index, if the group does not occur before
abbrev pub line_once : (Group → List ℕ) → List Group → ℕ → List ℕ
line_once line groups i = option_map_or (λ g. if list_any (λ h. same_group h g) (take i groups) then [] else line g) (slice_get groups i) []
