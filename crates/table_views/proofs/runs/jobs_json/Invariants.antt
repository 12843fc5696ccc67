use Rattle.std.proofs.Common.{◌≡◌, ◌++◌}
use Rattle.table_model.specs.inner.Cells.{states}
use Rattle.table_views.specs.RunLines.{jobs_json}
use Rattle.table_views.proofs.runs.jobs_json.Given as goal

-- the texts so far and those of the remaining jobs make up all
abbrev pub invariant-loop-planned : goal.invariant-loop-planned
invariant-loop-planned l =
    l.texts.items ++ jobs_json l.planned-iterator.a.rest.now (states l.planned-iterator.b.rest.now) ≡ jobs_json l.plan (states l.jobs)
