-- A page of the runs and legs that hold concurrency groups or wait for them, run by run. GitHub Docs, "Control the concurrency of workflows and
-- jobs". The format is defined by this project.
use Rattle.std.specs.Prelude.{◌≡◌, ℕ, ◌+◌, ◌-◌, List, ◌∷◌, ◌++◌, ◌&&◌, codes, decimal, filter_map, length, map, Bool, Option, Some, None, if◌then◌else◌}
use Rattle.std.specs.Option.{option_and_then}
use Rattle.group_name.specs.Group.{Group}
use Rattle.group_name.specs.KeyTexts.{name_bytes, repository_bytes}
use Rattle.table_model.specs.Groups.{holds}
use Rattle.table_model.specs.LegContext.{id_at}
use Rattle.table_model.specs.Runs.{RunState}
use Rattle.table_model.specs.declared.holder.Holder.{Holder}
use Rattle.table_model.specs.declared.holder.Holder.TheVariants.{Run, Leg}
use Rattle.table_model.specs.TableState.{TableState}
use Rattle.table_views.specs.GroupLines.{group_in_use}
use Rattle.table_views.specs.Members.{member, number_or_null}
use Rattle.table_views.specs.Pages.{IsPage, page_text, rows_from}
use Rattle.table_views.specs.ReadyPages.{legs_at, next_run, start_at}
use Rattle.table_views.specs.RunFilters.{is_wanted}
use Rattle.table_views.specs.Texts.{leg_members, quoted}
use Rattle.table_views.specs.declared.group_filter.GroupFilter.{GroupFilter}
use Rattle.definitions.specs.Limits.{most_looked}

-- whether a group is one that the filter lets through
abbrev pub is_group_shown : GroupFilter → Group → Bool
is_group_shown f g = is_wanted f.repository (repository_bytes g) && is_wanted f.group (name_bytes g)

-- the run or the leg, as members
abbrev pub holder_members : List RunState → Holder → List ℕ
holder_members runs (Run r) = codes "\"run\":" ++ decimal (id_at runs r) ++ codes ",\"job\":null,\"leg\":null"
holder_members runs (Leg p) = leg_members runs p

abbrev pub holding_word : List RunState → Holder → List ℕ
holding_word runs h = if holds runs h then codes "in_progress" else codes "pending"

abbrev pub holder_row : List RunState → Holder → Group → List ℕ
holder_row runs h g =
    codes "{\"repository\":" ++ quoted (repository_bytes g) ++ member (codes "group") (quoted (name_bytes g))
    ++ member (codes "state") (quoted (holding_word runs h)) ++ codes "," ++ holder_members runs h ++ codes "}"

-- the row of a holder, if it uses a group that the list shows
abbrev pub row_if_shown : GroupFilter → List RunState → Holder → Group → Option (List ℕ)
row_if_shown f runs h g = if is_group_shown f g then Some (holder_row runs h g) else None

abbrev pub row_of_holder : GroupFilter → List RunState → Holder → Option (List ℕ)
row_of_holder f runs h = option_and_then (row_if_shown f runs h) (group_in_use runs h)

-- the rows of the run at an index, and of its legs
abbrev pub holder_rows : GroupFilter → List RunState → ℕ → List (List ℕ)
holder_rows f runs r = filter_map (row_of_holder f runs) (Run r ∷ map Leg (legs_at runs r))

pub record IsHolderPage (f : GroupFilter) (from limit : ℕ) (t : TableState) (text : List ℕ) : Type 0 where
  pub count : ℕ
  pub page : IsPage (λ r. length (holder_rows f t.runs r)) (start_at t from) (length t.runs - start_at t from) limit most_looked count
  pub is : text ≡ page_text (codes "groups") (rows_from (holder_rows f t.runs) (start_at t from) count) count
      (codes "from") (number_or_null (next_run t (start_at t from + count)))
