-- What the path of a target names. It has to match exactly. The paths are defined by this project.
use Rattle.std.specs.Prelude.{ℕ, ◌-◌, List, drop, length, take, codes, Bool, true, false, Option, Some, None, option_map, if◌then◌else◌}
use Rattle.std.specs.Option.{option_map_or}
use Rattle.std.specs.Str.{bytes_eq}
use Rattle.definitions.specs.SmallText.{found_if, number_of}
use Rattle.view_sessions.specs.declared.board_file.BoardFile.TheVariants.{Page, Script, Style}
use Rattle.view_sessions.specs.declared.parameter.Parameter.{Parameter}
use Rattle.view_sessions.specs.declared.parameter.Parameter.TheVariants as parameter
use Rattle.view_sessions.specs.declared.path.Path.{Path}
use Rattle.view_sessions.specs.declared.path.Path.TheVariants.{Runs, Run, Body, Queue, Runners, Groups, Health, Metrics, Changes, Backup, Board}

-- the bytes after `/runs/`, if they begin with that
abbrev pub after_runs : List ℕ → Option (List ℕ)
after_runs path = found_if (bytes_eq (take 6 path) (codes "/runs/")) (drop 6 path)

-- the bytes before `/body`, if they end with that
abbrev pub before_body : List ℕ → Option (List ℕ)
before_body rest =
    let offset = length rest - 5 in
    found_if (bytes_eq (drop offset rest) (codes "/body")) (take offset rest)

-- after `/runs/`: RUN, or RUN and `/body`
abbrev pub run_path : List ℕ → Option Path
run_path rest = option_map_or (λ run. option_map Body (number_of run)) (before_body rest) (option_map Run (number_of rest))

-- the files of the board
abbrev pub board_path : List ℕ → Option Path
board_path path =
    if bytes_eq path (codes "/") then Some (Board Page)
    else if bytes_eq path (codes "/board.js") then Some (Board Script)
    else if bytes_eq path (codes "/board.css") then Some (Board Style)
    else None

abbrev pub plain_path : List ℕ → Option Path
plain_path path =
    if bytes_eq path (codes "/runs") then Some Runs
    else if bytes_eq path (codes "/queue") then Some Queue
    else if bytes_eq path (codes "/runners") then Some Runners
    else if bytes_eq path (codes "/groups") then Some Groups
    else if bytes_eq path (codes "/healthz") then Some Health
    else if bytes_eq path (codes "/metrics") then Some Metrics
    else if bytes_eq path (codes "/changes") then Some Changes
    else if bytes_eq path (codes "/backup") then Some Backup
    else board_path path

abbrev pub path_of : List ℕ → Option Path
path_of path = option_map_or run_path (after_runs path) (plain_path path)

-- ---- the parameters of a path

-- those of a list of runs
abbrev pub is_of_runs : Parameter → Bool
is_of_runs parameter.From = false
is_of_runs parameter.Name = false
is_of_runs parameter.After = false
is_of_runs parameter.Wait = false
is_of_runs _ = true

abbrev pub is_of_runners : Parameter → Bool
is_of_runners parameter.Name = true
is_of_runners parameter.After = true
is_of_runners parameter.Limit = true
is_of_runners _ = false

abbrev pub is_of_groups : Parameter → Bool
is_of_groups parameter.Repository = true
is_of_groups parameter.Group = true
is_of_groups parameter.From = true
is_of_groups parameter.Limit = true
is_of_groups _ = false

abbrev pub is_of_queue : Parameter → Bool
is_of_queue parameter.From = true
is_of_queue parameter.Limit = true
is_of_queue _ = false

abbrev pub is_of_run : Parameter → Bool
is_of_run parameter.From = true
is_of_run _ = false

abbrev pub is_of_changes : Parameter → Bool
is_of_changes parameter.After = true
is_of_changes parameter.Wait = true
is_of_changes _ = false

abbrev pub is_of : Path → Parameter → Bool
is_of Runs p = is_of_runs p
is_of (Run run) p = is_of_run p
is_of (Body run) p = false
is_of Queue p = is_of_queue p
is_of Runners p = is_of_runners p
is_of Groups p = is_of_groups p
is_of Health p = false
is_of Metrics p = false
is_of Changes p = is_of_changes p
is_of Backup p = false
is_of (Board file) p = false

-- ---- the names of parameters

abbrev pub parameter_named : List ℕ → Option Parameter
parameter_named name =
    if bytes_eq name (codes "status") then Some parameter.Status
    else if bytes_eq name (codes "conclusion") then Some parameter.Conclusion
    else if bytes_eq name (codes "repo") then Some parameter.Repository
    else if bytes_eq name (codes "path") then Some parameter.Path
    else if bytes_eq name (codes "event") then Some parameter.Event
    else if bytes_eq name (codes "ref") then Some parameter.Reference
    else if bytes_eq name (codes "group") then Some parameter.Group
    else if bytes_eq name (codes "before") then Some parameter.Before
    else if bytes_eq name (codes "limit") then Some parameter.Limit
    else if bytes_eq name (codes "from") then Some parameter.From
    else if bytes_eq name (codes "name") then Some parameter.Name
    else if bytes_eq name (codes "after") then Some parameter.After
    else if bytes_eq name (codes "wait") then Some parameter.Wait
    else None
