-- Which holders a change leaves in progress.
use Rattle.std.specs.Prelude.{◌≡◌, List, true}
use Rattle.group_name.specs.Group.{Group}
use Rattle.table_model.specs.Groups.{is_in_progress_in}
use Rattle.table_model.specs.Runs.{RunState}
use Rattle.table_model.specs.declared.holder.Holder.{Holder}

-- each holder that is in progress in a group still is
abbrev pub ReleasesNone : List RunState → List RunState → Type 0
ReleasesNone runs next = (g : Group) (h : Holder) → is_in_progress_in runs g h ≡ true → is_in_progress_in next g h ≡ true
