-- What the target of a request names. It has to match exactly: a query makes it another target. This is defined by this project.
use Rattle.std.specs.Prelude.{◌≡◌, ℕ, ◌-◌, ◌==◌, List, ◌++◌, take, drop, length, codes, Option, Some, None, option_map, option_and_then, if◌then◌else◌}
use Rattle.std.specs.List.{position}
use Rattle.std.specs.Option.{option_map_or}
use Rattle.std.specs.Str.{bytes_eq}
use Rattle.definitions.specs.SmallText.{found_if, number_of, runner_name_of}
use Rattle.webhook_sessions.specs.declared.path.Path.{Path}
use Rattle.webhook_sessions.specs.declared.path.Path.TheVariants.{Events, Run, Body, Cancel, Attempt, Forget, Lost, Discharge}

-- the bytes after a prefix, if they begin with it
abbrev pub after_prefix : List ℕ → List ℕ → Option (List ℕ)
after_prefix prefix bytes = found_if (bytes_eq (take (length prefix) bytes) prefix) (drop (length prefix) bytes)

-- the bytes before a suffix, if they end with it
abbrev pub before_end : List ℕ → List ℕ → Option (List ℕ)
before_end end bytes =
    let offset = length bytes - length end in
    found_if (bytes_eq (drop offset bytes) end) (take offset bytes)

-- the bytes before the first slash, and those from it on
abbrev pub at_slash : List ℕ → Option (List ℕ × List ℕ)
at_slash bytes = option_map (λ n. (take n bytes, drop n bytes)) (position (λ b. b == 47) bytes)

-- after `/runs/RUN`: `/body`, `/cancel`, `/forget` or `/attempts/`ATTEMPT
abbrev pub part_of_run : ℕ → List ℕ → Option Path
part_of_run run rest =
    if bytes_eq rest (codes "/body") then Some (Body run)
    else (if bytes_eq rest (codes "/cancel") then Some (Cancel run)
    else (if bytes_eq rest (codes "/forget") then Some (Forget run)
    else option_map (λ attempt. Attempt (record { run = run; attempt = attempt })) (option_and_then number_of (after_prefix (codes "/attempts/") rest))))

-- after `/runs/`: RUN, or RUN and a part of that run
abbrev pub run_path : List ℕ → Option Path
run_path rest =
    option_map_or (λ parts. option_and_then (λ run. part_of_run run parts.1) (number_of parts.0)) (at_slash rest)
    (option_map Run (number_of rest))

-- after `/runners/`: NAME`/lost` or NAME`/forget`
abbrev pub runner_path : List ℕ → Option Path
runner_path rest =
    option_map_or (λ name. option_map Lost (runner_name_of name)) (before_end (codes "/lost") rest)
    (option_map_or (λ name. option_map Discharge (runner_name_of name)) (before_end (codes "/forget") rest) None)

abbrev pub path_of : List ℕ → Option Path
path_of target =
    if bytes_eq target (codes "/events") then Some Events
    else option_map_or run_path (after_prefix (codes "/runs/") target) (option_map_or runner_path (after_prefix (codes "/runners/") target) None)

-- the target of a path
abbrev pub IsTargetOf : Path → List ℕ → Type 0
IsTargetOf Events target = target ≡ codes "/events"
IsTargetOf (Run run) target = (text : List ℕ) × (number_of text ≡ Some run) × (target ≡ codes "/runs/" ++ text)
IsTargetOf (Body run) target = (text : List ℕ) × (number_of text ≡ Some run) × (target ≡ codes "/runs/" ++ text ++ codes "/body")
IsTargetOf (Cancel run) target = (text : List ℕ) × (number_of text ≡ Some run) × (target ≡ codes "/runs/" ++ text ++ codes "/cancel")
IsTargetOf (Forget run) target = (text : List ℕ) × (number_of text ≡ Some run) × (target ≡ codes "/runs/" ++ text ++ codes "/forget")
IsTargetOf (Attempt a) target =
    (run attempt : List ℕ) × (number_of run ≡ Some a.run) × (number_of attempt ≡ Some a.attempt)
    × (target ≡ codes "/runs/" ++ run ++ (codes "/attempts/" ++ attempt))
IsTargetOf (Lost runner) target = (text : List ℕ) × (runner_name_of text ≡ Some runner) × (target ≡ codes "/runners/" ++ text ++ codes "/lost")
IsTargetOf (Discharge runner) target = (text : List ℕ) × (runner_name_of text ≡ Some runner) × (target ≡ codes "/runners/" ++ text ++ codes "/forget")

-- the method of a path: RFC 9110, section 9
abbrev pub method_of : Path → List ℕ
method_of Events = codes "POST"
method_of (Run run) = codes "GET"
method_of (Body run) = codes "GET"
method_of (Cancel run) = codes "POST"
method_of (Attempt a) = codes "POST"
method_of (Forget run) = codes "POST"
method_of (Lost runner) = codes "POST"
method_of (Discharge runner) = codes "POST"
