-- The runners as an operator sees them: the name, the last number, and the lease that each holds, with the leg that has
-- it. The format is defined by this project.
use Rattle.std.specs.Prelude.{ℕ, List, ◌++◌, codes, decimal, flat_map, Option, Some, None, option_map, option_and_then}
use Rattle.table_model.specs.Fitting.{site_of_lease}
use Rattle.table_model.specs.declared.sites.LegSite.{LegSite}
use Rattle.table_model.specs.Runs.{RunState}
use Rattle.table_model.specs.TableState.{RunnerState, TableState}
use Rattle.table_views.specs.Texts.{leg_members, leg_words, line, quoted}
use Rattle.table_views.specs.declared.form.Form.{Form}
use Rattle.table_views.specs.declared.form.Form.TheVariants as form

-- the lease that a runner holds, and the leg that has it
abbrev pub held_leg : List RunState → RunnerState → Option (ℕ × LegSite)
held_leg runs runner = option_and_then (λ lease. option_map (λ p. (lease, p)) (site_of_lease runs lease)) runner.holds

abbrev pub lease_text : Form → List RunState → Option (ℕ × LegSite) → List ℕ
lease_text form.Lines runs None = codes "-"
lease_text form.Json runs None = codes "null"
lease_text form.Lines runs (Some held) = codes "lease " ++ decimal held.0 ++ codes " " ++ leg_words runs held.1
lease_text form.Json runs (Some held) = codes "{\"lease\":" ++ decimal held.0 ++ codes "," ++ leg_members runs held.1 ++ codes "}"

abbrev pub runner_line : Form → List RunState → RunnerState → List ℕ
runner_line form.Lines runs runner =
    line (codes "runner " ++ runner.name ++ codes " " ++ decimal runner.number ++ codes " "
    ++ lease_text form.Lines runs (held_leg runs runner))
runner_line form.Json runs runner =
    line (codes "{\"runner\":" ++ quoted runner.name ++ codes ",\"number\":" ++ decimal runner.number
    ++ codes ",\"lease\":" ++ lease_text form.Json runs (held_leg runs runner) ++ codes "}")

-- a line for each runner, in the order of their names
abbrev pub runner_lines : Form → TableState → List ℕ
runner_lines form t = flat_map (runner_line form t.runs) t.runners
