use Rattle.std.proofs.Common.{◌≡◌, take, true}
use Rattle.std.specs.List.{list_all}
use Rattle.needs_graph.specs.Needs.{is_job}
use Rattle.needs_graph.specs.inner.Rows.{needs_row}
use Rattle.needs_graph.proofs.rows.needs_row.Given as goal

-- the ids so far are known, and their jobs are marked
abbrev pub invariant-loop-id : goal.invariant-loop-id
invariant-loop-id l = (l.row ≡ needs_row l.jobs (take l.id-index l.ids)) × (list_all (is_job l.jobs) (take l.id-index l.ids) ≡ true)
