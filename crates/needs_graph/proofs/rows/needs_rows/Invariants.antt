use Rattle.std.proofs.Common.{◌≡◌, map, take, true}
use Rattle.std.specs.List.{list_all}
use Rattle.needs_graph.specs.Needs.{is_job}
use Rattle.needs_graph.specs.inner.Rows.{needs_row}
use Rattle.needs_graph.proofs.rows.needs_rows.Given as goal

-- the jobs so far list only known jobs, and their rows are done
abbrev pub invariant-loop-job : goal.invariant-loop-job
invariant-loop-job l =
    (l.rows.items ≡ map (λ job. needs_row l.jobs job.needs) (take l.job-index l.jobs)) ×
    (list_all (λ job. list_all (is_job l.jobs) job.needs) (take l.job-index l.jobs) ≡ true)
