-- The numbers of a table, in Prometheus' text format. Their names are defined by this project.
use Rattle.std.specs.Prelude.{ℕ, List, ◌++◌, Bool, codes, find, flat_map, is_some, length, map, not}
use Rattle.std.specs.List.{count_by, filter}
use Rattle.std.specs.Option.{option_map_or}
use Rattle.table_model.specs.Runs.{leg_sites, RunState}
use Rattle.table_model.specs.declared.sites.LegSite.{LegSite}
use Rattle.table_model.specs.Step.{has_completed}
use Rattle.table_model.specs.TableState.{RunnerState, TableState}
use Rattle.table_views.specs.LegCounting.{leg_lines}
use Rattle.table_views.specs.MetricLines.{capped, head, metric, value_line}
use Rattle.table_views.specs.NamedCounts.{named, others, times}
use Rattle.table_views.specs.QueueLines.{is_ready_at, labels_json}
use Rattle.table_views.specs.RunCounting.{run_lines}
use Rattle.table_views.specs.Texts.{quoted}

-- ---- what ready legs ask for

-- the list of labels that each ready leg among these asks for
abbrev pub asked_at : List RunState → List LegSite → List (List ℕ)
asked_at runs sites = map (labels_json runs) (filter (is_ready_at runs) sites)

abbrev pub asked : List RunState → List (List ℕ)
asked runs = asked_at runs (leg_sites runs)

-- A list is the value of a label, with a backslash before each quote and each backslash.
abbrev pub ready_value : List ℕ → ℕ → List ℕ
ready_value list count = value_line (codes "acts_ready_legs") (codes "{labels=" ++ quoted list ++ codes "}") count

abbrev pub ready_lines : List RunState → List ℕ
ready_lines runs =
    head (codes "acts_ready_legs") (codes "gauge") (codes "Ready legs by the labels that they ask for.")
    ++ flat_map (λ list. ready_value list (times (asked runs) list)) (named (asked runs))
    ++ ready_value (codes "other") (others (asked runs))

-- ---- runners

abbrev pub leases_of : List RunnerState → ℕ
leases_of runners = capped (count_by (λ runner. is_some runner.holds) runners)

abbrev pub runner_lines : List RunnerState → List ℕ
runner_lines runners =
    metric (codes "acts_runners") (codes "gauge") (codes "Runners that have claimed and were not discharged.") (length runners)
    ++ metric (codes "acts_leases") (codes "gauge") (codes "Runners that hold a lease.") (leases_of runners)

-- ---- forgotten runs

-- a run that has not completed
abbrev pub is_open : RunState → Bool
is_open run = not (has_completed run.phase)

-- the id of the first one, which keeps those behind it from being forgotten; 0 if all have completed
abbrev pub first_open_run : List RunState → ℕ
first_open_run runs = option_map_or (λ run. run.id) (find is_open runs) 0

abbrev pub through_lines : ℕ → List ℕ
through_lines through =
    metric (codes "acts_forgotten_runs") (codes "gauge") (codes "Runs that are forgotten: those with ids up to this one.") through

abbrev pub open_lines : ℕ → List ℕ
open_lines run =
    metric (codes "acts_first_open_run") (codes "gauge")
    (codes "The first run that has not completed, which keeps later ones from being forgotten; 0 if all have.") run

abbrev pub forgotten_lines : ℕ → List RunState → List ℕ
forgotten_lines through runs = through_lines through ++ open_lines (first_open_run runs)

-- ---- all

abbrev pub table_metrics : TableState → List ℕ
table_metrics t =
    run_lines t.runs ++ leg_lines t.runs ++ ready_lines t.runs ++ runner_lines t.runners
    ++ forgotten_lines t.forgotten.through t.runs
