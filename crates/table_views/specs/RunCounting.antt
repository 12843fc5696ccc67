-- How many runs have each status, and completed ones each conclusion.
use Rattle.std.specs.Prelude.{ℕ, List, [], ◌++◌, Bool, ◌&&◌, codes, map, unwrap_or}
use Rattle.std.specs.List.{count_by}
use Rattle.std.specs.Str.{bytes_eq}
use Rattle.wf_value.specs.ScalarValue.{outcome_word}
use Rattle.table_model.specs.Runs.{RunState}
use Rattle.table_model.specs.ViewText.{status_text}
use Rattle.table_views.specs.MetricLines.{capped, head, value_line}
use Rattle.table_views.specs.RunRows.{conclusion_at}
use Rattle.table_views.specs.declared.run_counts.RunCounts.{RunCounts}
use Rattle.table_views.specs.declared.run_counts.RunStatus.{RunStatus}
use Rattle.table_views.specs.declared.run_counts.RunStatus.TheVariants as status

-- a status and a conclusion, which is empty unless the run has completed
abbrev pub Words : Type 0
Words = List ℕ × List ℕ

-- those of a run, as its row shows them
abbrev pub words_of : RunState → Words
words_of run = (status_text run.phase run.jobs, unwrap_or (conclusion_at run.phase run.jobs) [])

-- as the code names them
abbrev pub words : RunStatus → Words
words status.Pending = (codes "pending", [])
words status.Queued = (codes "queued", [])
words status.InProgress = (codes "in_progress", [])
words (status.Completed outcome) = (codes "completed", outcome_word outcome)

-- ---- counts

abbrev pub is_at : List ℕ → List ℕ → Words → Bool
is_at status conclusion w = bytes_eq w.0 status && bytes_eq w.1 conclusion

abbrev pub runs_at : List ℕ → List ℕ → List Words → ℕ
runs_at status conclusion runs = capped (count_by (is_at status conclusion) runs)

abbrev pub run_counts : List Words → RunCounts
run_counts runs = record {
  pending = runs_at (codes "pending") [] runs;
  queued = runs_at (codes "queued") [] runs;
  in_progress = runs_at (codes "in_progress") [] runs;
  success = runs_at (codes "completed") (codes "success") runs;
  failure = runs_at (codes "completed") (codes "failure") runs;
  cancelled = runs_at (codes "completed") (codes "cancelled") runs;
}

-- ---- their lines

-- the number of the runs at a status and a conclusion
abbrev pub run_line : List ℕ → List ℕ → ℕ → List ℕ
run_line status conclusion count =
    value_line (codes "acts_runs") (codes "{status=\"" ++ status ++ codes "\",conclusion=\"" ++ conclusion ++ codes "\"}") count

abbrev pub lines_of_runs : RunCounts → List ℕ
lines_of_runs counts =
    head (codes "acts_runs") (codes "gauge") (codes "Runs by status and conclusion.")
    ++ run_line (codes "pending") [] counts.pending ++ run_line (codes "queued") [] counts.queued
    ++ run_line (codes "in_progress") [] counts.in_progress
    ++ run_line (codes "completed") (codes "success") counts.success
    ++ run_line (codes "completed") (codes "failure") counts.failure
    ++ run_line (codes "completed") (codes "cancelled") counts.cancelled

abbrev pub run_lines : List RunState → List ℕ
run_lines runs = lines_of_runs (run_counts (map words_of runs))
