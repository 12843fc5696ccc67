use Rattle.std.proofs.Common.{◌∙◌, [], ap}
use Rattle.std.specs.Prelude.{codes, unwrap_or}
use Rattle.wf_value.specs.ScalarValue.{outcome_word}
use Rattle.needs_graph.specs.Needs.{conclusion_of}
use Rattle.table_model.proofs.Doors.{results_of_cells}
use Rattle.table_model.specs.ViewText.{results_of, status_text}
use Rattle.table_views.specs.RunRows.{conclusion_at}
use Rattle.table_views.proofs.run_counts.RunStatus.of.Goals as goal

pub returns-in-Ended : goal.returns-in-Ended
returns-in-Ended c =
    let jobs = c.args.run.now.jobs in
    let outcome = c.conclude.ensures ∙ ap conclusion_of (results_of_cells c.jobs-in-Ended.result.now)
    ∙ ap (λ js. conclusion_of (results_of js)) c.jobs-in-Ended.ensures in
    ap (λ o. (codes "completed", outcome_word o)) outcome
    ∙ ap (λ p. (status_text p jobs, unwrap_or (conclusion_at p jobs) [])) c.in-Ended.ensures
