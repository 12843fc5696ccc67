use Rattle.std.specs.List.{list_all}
use Rattle.std.proofs.Common.{ap, sym, ◌∙◌}
use Rattle.std.proofs.lemmas.List.Folds.{list_all-map}
use Rattle.table_model.specs.inner.Cells.{JobCells}
use Rattle.table_model.specs.Runs.{JobState, is_blocked}
use Rattle.stored_tables.proofs.sound.runs.has_blocked_jobs.Goals as goal

pub returns : goal.returns
returns c = c.are_blocked.ensures ∙ sym (list_all-map (λ (y : JobState). is_blocked y.phase) (λ (x : JobCells). x.state) c.jobs.result.now)
    ∙ ap (list_all (λ (y : JobState). is_blocked y.phase)) c.jobs.ensures
