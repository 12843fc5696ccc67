use Rattle.std.specs.List.{list_all}
use Rattle.std.proofs.Common.{ap, sym, ◌∙◌}
use Rattle.std.proofs.lemmas.List.Folds.{list_all-map}
use Rattle.table_model.specs.inner.Cells.{JobCells}
use Rattle.table_model.specs.Settling.{is_finished}
use Rattle.table_runs.proofs.first_site.has_finished_jobs.Goals as goal

pub returns : goal.returns
returns c = c.are_finished.ensures ∙ sym (list_all-map is_finished (λ (x : JobCells). x.state) c.jobs.result.now)
    ∙ ap (list_all is_finished) c.jobs.ensures
