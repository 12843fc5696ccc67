-- The line of a run that made way for a newcomer of its concurrency group. GitHub Docs, "Control the concurrency of workflows and jobs". The
-- format is defined by this project.
use Rattle.std.specs.Prelude.{ℕ, List, ◌++◌, codes, decimal, Option, Some, None, option_and_then, if◌then◌else◌}
use Rattle.std.specs.Option.{option_map_or, option_or}
use Rattle.group_name.specs.Group.{Group}
use Rattle.table_model.specs.GroupLaw.{same_holder}
use Rattle.table_model.specs.Groups.{group_at, group_state}
use Rattle.table_model.specs.LegContext.{id_at, job_id}
use Rattle.table_model.specs.Runs.{RunState, run_at}
use Rattle.table_model.specs.declared.holder.Holder.{Holder}
use Rattle.table_model.specs.declared.holder.Holder.TheVariants.{Run, Leg}
use Rattle.table_views.specs.Texts.{line, quoted}

-- ---- who comes next in a group

-- a holder, unless it is this one
abbrev pub unless_it_is : Holder → Holder → Option Holder
unless_it_is h next = if same_holder next h then None else Some next

-- the other holder that is pending in a group, or else the one that is in progress
abbrev pub next_in : List RunState → Holder → Group → Option Holder
next_in runs h g = option_and_then (unless_it_is h) (option_or (group_state runs g).pending (group_state runs g).in_progress)

-- that of its own group
abbrev pub next_after : List RunState → Holder → Option Holder
next_after runs h = option_and_then (next_in runs h) (group_at runs h)

-- ---- as JSON

-- the attempt that a run is in
abbrev pub attempt_at : List RunState → ℕ → ℕ
attempt_at runs r = option_map_or (λ run. run.attempt) (run_at runs r) 0

-- a run, and a leg of it, with its attempt
abbrev pub holder_json : List RunState → Holder → List ℕ
holder_json runs (Run r) =
    codes "{\"run\":" ++ decimal (id_at runs r) ++ codes ",\"attempt\":" ++ decimal (attempt_at runs r) ++ codes ",\"job\":null,\"leg\":null}"
holder_json runs (Leg p) =
    codes "{\"run\":" ++ decimal (id_at runs p.run) ++ codes ",\"attempt\":" ++ decimal (attempt_at runs p.run)
    ++ codes ",\"job\":" ++ quoted (job_id runs p.run p.job) ++ codes ",\"leg\":" ++ decimal p.leg ++ codes "}"

abbrev pub holder_or_null : List RunState → Option Holder → List ℕ
holder_or_null runs None = codes "null"
holder_or_null runs (Some h) = holder_json runs h

-- run `r`, as it is after the entries up to a place, and who comes next in its group
unfoldable pub displaced_line : ℕ → ℕ → List RunState → ℕ → RunState → List ℕ
displaced_line place at runs r run =
    line (codes "{\"after\":" ++ decimal place ++ codes ",\"run\":" ++ decimal run.id ++ codes ",\"attempt\":" ++ decimal run.attempt
    ++ codes ",\"displaced_by\":" ++ holder_or_null runs (next_after runs (Run r)) ++ codes ",\"at\":" ++ decimal at ++ codes "}")
