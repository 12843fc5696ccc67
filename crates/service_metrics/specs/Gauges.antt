-- How a service stands, in numbers.
use Rattle.std.specs.Prelude.{ℕ, List, ◌++◌, codes}
use Rattle.table_views.specs.MetricLines.{head, metric, value_line}

abbrev pub version_line : List ℕ → List ℕ
version_line version = value_line (codes "acts_build_info") (codes "{version=\"" ++ version ++ codes "\"}") 1

abbrev pub build_lines : List ℕ → List ℕ
build_lines version = head (codes "acts_build_info") (codes "gauge") (codes "The program.") ++ version_line version

abbrev pub program_lines : List ℕ → ℕ → List ℕ
program_lines version uptime =
    build_lines version
    ++ metric (codes "acts_uptime_seconds") (codes "gauge") (codes "Seconds since the service began.") uptime

-- the longest silence of a runner with a lease
abbrev pub silence_lines : ℕ → List ℕ
silence_lines silence =
    metric (codes "acts_longest_silence_seconds") (codes "gauge") (codes "Seconds since the runner with a lease that is silent for longest was heard.") silence

abbrev pub client_lines : ℕ → ℕ → ℕ → List ℕ
client_lines hooks runners views =
    head (codes "acts_clients") (codes "gauge") (codes "Connected clients by port.")
    ++ value_line (codes "acts_clients") (codes "{port=\"hook\"}") hooks
    ++ value_line (codes "acts_clients") (codes "{port=\"runner\"}") runners
    ++ value_line (codes "acts_clients") (codes "{port=\"view\"}") views

abbrev pub standing_lines : ℕ → List ℕ
standing_lines standing =
    metric (codes "acts_first_run_seconds") (codes "gauge")
    (codes "Seconds since the run after the forgotten ones became the first, or since the service began.") standing

abbrev pub file_lines : ℕ → ℕ → ℕ → ℕ → List ℕ
file_lines area room generation checkpoints =
    metric (codes "acts_area_bytes") (codes "gauge") (codes "The length of an area of the file.") area
    ++ metric (codes "acts_area_room_bytes") (codes "gauge") (codes "What is left for records in the active area.") room
    ++ metric (codes "acts_store_generation") (codes "gauge") (codes "The generation of the active area.") generation
    ++ metric (codes "acts_checkpoints_total") (codes "counter") (codes "Checkpoints that were finished.") checkpoints
