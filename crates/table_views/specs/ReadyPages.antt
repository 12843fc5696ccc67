-- A page of the ready legs of a table, run by run.
use Rattle.std.specs.Prelude.{◌≡◌, ℕ, ◌+◌, ◌-◌, List, [], codes, length, map, min, nat_lt, slice_get, Option, Some, None, if◌then◌else◌}
use Rattle.std.specs.List.{filter}
use Rattle.std.specs.Option.{option_map_or}
use Rattle.table_model.specs.Runs.{leg_sites_of_run, RunState}
use Rattle.table_model.specs.declared.sites.LegSite.{LegSite}
use Rattle.table_model.specs.TableState.{TableState, index_of}
use Rattle.table_views.specs.Members.{number_or_null}
use Rattle.table_views.specs.Pages.{IsPage, page_text, rows_from}
use Rattle.table_views.specs.QueueLines.{is_ready_at, ready_row}
use Rattle.definitions.specs.Limits.{most_looked}

-- the sites of the legs of the run at an index
abbrev pub legs_at : List RunState → ℕ → List LegSite
legs_at runs r = option_map_or (λ run. leg_sites_of_run (r, run)) (slice_get runs r) []

-- the rows of its ready legs
abbrev pub ready_rows : List RunState → ℕ → List (List ℕ)
ready_rows runs r = map (ready_row runs) (filter (is_ready_at runs) (legs_at runs r))

-- the index of the run with an id, of the first run that is not forgotten, or the end of the runs
abbrev pub start_at : TableState → ℕ → ℕ
start_at t from = min (index_of t from) (length t.runs)

-- the id of the run at an index, if there is one
abbrev pub next_run : TableState → ℕ → Option ℕ
next_run t index = if nat_lt index (length t.runs) then Some (t.forgotten.through + index + 1) else None

pub record IsReadyPage (from limit : ℕ) (t : TableState) (text : List ℕ) : Type 0 where
  pub count : ℕ
  pub page : IsPage (λ r. length (ready_rows t.runs r)) (start_at t from) (length t.runs - start_at t from) limit most_looked count
  pub is : text ≡ page_text (codes "queue") (rows_from (ready_rows t.runs) (start_at t from) count) count
      (codes "from") (number_or_null (next_run t (start_at t from + count)))
