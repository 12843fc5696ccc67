use Rattle.std.specs.List.{list_any}
use Rattle.std.proofs.Common.{ap, sym, ◌∙◌}
use Rattle.table_model.specs.inner.ActiveRuns.{has_ready_leg}
use Rattle.table_model.specs.inner.Cells.{JobCells}
use Rattle.table_model.proofs.AnyOf.{list_any-map}
use Rattle.table_model.proofs.run.Run.offers_legs.Goals as goal

pub returns : goal.returns
returns c = c.have_ready_leg.ensures ∙ sym (list_any-map has_ready_leg (λ (x : JobCells). x.state) c.jobs.result.now)
    ∙ ap (list_any has_ready_leg) c.jobs.ensures
