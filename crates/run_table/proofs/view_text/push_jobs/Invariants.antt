use Rattle.std.proofs.Common.{◌≡◌, ◌++◌}
use Rattle.std.specs.Prelude.{string_bytes}
use Rattle.table_model.specs.inner.Cells.{states}
use Rattle.table_model.specs.ViewText.{jobs_text}
use Rattle.run_table.proofs.view_text.push_jobs.Given as goal

-- what has been added and what is left make up the whole
abbrev pub invariant-loop-planned : goal.invariant-loop-planned
invariant-loop-planned l =
    string_bytes l.text ++ jobs_text l.planned-iterator.a.rest.now (states l.planned-iterator.b.rest.now)
    ≡ string_bytes l.initial.text ++ jobs_text l.plan (states l.jobs)
