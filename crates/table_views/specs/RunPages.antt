-- A page of the runs of a table, newest first.
use Rattle.std.specs.Prelude.{◌≡◌, ℕ, ◌+◌, ◌-◌, List, [], ◌∷◌, codes, length, min, nat_lt, Option, Some, None, if◌then◌else◌}
use Rattle.std.specs.Option.{option_map_or}
use Rattle.table_model.specs.Step.{seen}
use Rattle.table_model.specs.TableState.{TableState, index_of}
use Rattle.table_views.specs.Members.{number_or_null}
use Rattle.table_views.specs.Pages.{IsPage, page_text, rows_from}
use Rattle.table_views.specs.RunFilters.{is_shown}
use Rattle.table_views.specs.RunRows.{run_row}
use Rattle.definitions.specs.Limits.{most_looked}
use Rattle.table_views.specs.declared.run_filter.RunFilter.{RunFilter}

-- how many of the runs that are not forgotten are below an id, or all
abbrev pub runs_below : TableState → Option ℕ → ℕ
runs_below t None = length t.runs
runs_below t (Some before) = min (index_of t before) (length t.runs)

-- the row of a run, if the list shows it
abbrev pub shown_row : RunFilter → TableState → ℕ → List (List ℕ)
shown_row f t id = option_map_or (λ view. if is_shown f t view then run_row t view ∷ [] else []) (seen t id) []

-- the rows at an index that counts down from the newest of `top` runs
abbrev pub newest_rows : RunFilter → TableState → ℕ → ℕ → List (List ℕ)
newest_rows f t top index = shown_row f t (t.forgotten.through + (top - index))

-- the id below which the list goes on, if a run is left
abbrev pub next_below : TableState → ℕ → ℕ → Option ℕ
next_below t top count = if nat_lt count top then Some (t.forgotten.through + (top - count) + 1) else None

-- the text of a page that has looked at `count` of the `top` runs below the asked id
pub record IsRunsPage (f : RunFilter) (before : Option ℕ) (limit : ℕ) (t : TableState) (text : List ℕ) : Type 0 where
  pub count : ℕ
  pub page : IsPage (λ index. length (newest_rows f t (runs_below t before) index)) 0 (runs_below t before) limit most_looked count
  pub is : text ≡ page_text (codes "runs") (rows_from (newest_rows f t (runs_below t before)) 0 count) count
      (codes "before") (number_or_null (next_below t (runs_below t before) count))
