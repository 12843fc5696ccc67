use Rattle.std.proofs.Common.{◌∙◌, ap, sym}
use Rattle.std.proofs.lemmas.List.Folds.{list_all-map}
use Rattle.std.specs.List.{list_all}
use Rattle.table_model.specs.inner.Cells.{JobCells}
use Rattle.covered_log.specs.Standings.{has_no_leg}
use Rattle.covered_log.proofs.standings.has_no_legs.Goals as goal

pub returns : goal.returns
returns c = c.have_no_legs.ensures ∙ sym (list_all-map has_no_leg (λ (x : JobCells). x.state) c.jobs.result.now)
    ∙ ap (list_all has_no_leg) c.jobs.ensures
