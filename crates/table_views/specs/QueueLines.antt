-- The queue of a table as an operator sees it: the ready legs, with the labels that each requires, then the concurrency
-- groups. The format is defined by this project.
use Rattle.std.specs.Prelude.{ℕ, List, [], ◌++◌, map, codes, flat_map, Bool, false, unwrap_or}
use Rattle.std.specs.List.{filter}
use Rattle.std.specs.Option.{option_map_or}
use Rattle.table_model.specs.Fitting.{is_ready}
use Rattle.table_model.specs.Runs.{leg_at, leg_sites, RunState}
use Rattle.table_model.specs.declared.sites.LegSite.{LegSite}
use Rattle.table_model.specs.LegContext.{labels_at}
use Rattle.table_model.specs.TableState.{TableState}
use Rattle.table_views.specs.GroupLines.{group_lines}
use Rattle.table_views.specs.Texts.{leg_members, leg_words, line, listed, quoted}
use Rattle.table_views.specs.declared.form.Form.{Form}
use Rattle.table_views.specs.declared.form.Form.TheVariants as form

abbrev pub is_ready_at : List RunState → LegSite → Bool
is_ready_at runs p = option_map_or (λ leg. is_ready leg.phase) (leg_at runs p) false

-- the labels that a leg requires, as JSON
abbrev pub labels_json : List RunState → LegSite → List ℕ
labels_json runs p = listed (map quoted (unwrap_or (labels_at runs p) []))

-- a ready leg as JSON
abbrev pub ready_row : List RunState → LegSite → List ℕ
ready_row runs p = codes "{" ++ leg_members runs p ++ codes ",\"labels\":" ++ labels_json runs p ++ codes "}"

abbrev pub ready_line : Form → List RunState → LegSite → List ℕ
ready_line form.Lines runs p = line (codes "ready " ++ leg_words runs p ++ codes " " ++ labels_json runs p)
ready_line form.Json runs p = line (ready_row runs p)

-- a line for each ready leg, in the order of run, job and leg
abbrev pub ready_lines : Form → List RunState → List ℕ
ready_lines form runs = flat_map (ready_line form runs) (filter (is_ready_at runs) (leg_sites runs))

abbrev pub queue_lines : Form → TableState → List ℕ
queue_lines form t = ready_lines form t.runs ++ group_lines form t.runs
