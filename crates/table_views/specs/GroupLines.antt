-- The concurrency groups that a run or a leg holds or waits for, as an operator sees them: which holder of each is in
-- progress, and which is pending. GitHub Docs, "Control the concurrency of workflows and jobs". The format is defined
-- by this project.
use Rattle.std.specs.Prelude.{ℕ, List, ◌++◌, ◌||◌, filter_map, flat_map, codes, decimal, if◌then◌else◌, Option, Some, None}
use Rattle.group_name.specs.Group.{Group, same_group}
use Rattle.group_name.specs.KeyTexts.{name_bytes, repository_bytes}
use Rattle.table_model.specs.Groups.{group_at, all_holders, group_state, holds, waits}
use Rattle.table_model.specs.LegContext.{id_at}
use Rattle.table_model.specs.Runs.{RunState}
use Rattle.table_views.specs.Distinct.{distinct}
use Rattle.table_views.specs.Texts.{leg_members, leg_words, line, quoted}
use Rattle.table_views.specs.declared.form.Form.{Form}
use Rattle.table_views.specs.declared.form.Form.TheVariants as form
use Rattle.table_model.specs.declared.holder.Holder.{Holder}
use Rattle.table_model.specs.declared.holder.Holder.TheVariants.{Run, Leg}

-- ---- which groups

-- the group that a run or a leg holds or waits for
abbrev pub group_in_use : List RunState → Holder → Option Group
group_in_use runs h = if waits runs h || holds runs h then group_at runs h else None

-- each group once, at its first occurrence
abbrev pub distinct_groups : List Group → List Group
distinct_groups groups = distinct same_group groups

-- in the order of all runs, then all legs
abbrev pub groups_in_use : List RunState → List Group
groups_in_use runs = distinct_groups (filter_map (group_in_use runs) (all_holders runs))

-- ---- their lines

abbrev pub holder_text : Form → List RunState → Option Holder → List ℕ
holder_text form.Lines runs None = codes "-"
holder_text form.Json runs None = codes "null"
holder_text form.Lines runs (Some (Run r)) = codes "run " ++ decimal (id_at runs r)
holder_text form.Json runs (Some (Run r)) = codes "{\"run\":" ++ decimal (id_at runs r) ++ codes "}"
holder_text form.Lines runs (Some (Leg p)) = codes "leg " ++ leg_words runs p
holder_text form.Json runs (Some (Leg p)) = codes "{" ++ leg_members runs p ++ codes "}"

-- a group with its repository and its case-folded name
abbrev pub group_line : Form → List RunState → Group → List ℕ
group_line form.Lines runs g =
    line (codes "group " ++ quoted (repository_bytes g) ++ codes " " ++ quoted (name_bytes g)
    ++ codes " in_progress " ++ holder_text form.Lines runs (group_state runs g).in_progress
    ++ codes " pending " ++ holder_text form.Lines runs (group_state runs g).pending)
group_line form.Json runs g =
    line (codes "{\"repository\":" ++ quoted (repository_bytes g) ++ codes ",\"group\":" ++ quoted (name_bytes g)
    ++ codes ",\"in_progress\":" ++ holder_text form.Json runs (group_state runs g).in_progress
    ++ codes ",\"pending\":" ++ holder_text form.Json runs (group_state runs g).pending ++ codes "}")

abbrev pub group_lines : Form → List RunState → List ℕ
group_lines form runs = flat_map (group_line form runs) (groups_in_use runs)
