use Rattle.std.specs.List.{list_any}
use Rattle.std.specs.Prelude.{◌||◌}
use Rattle.std.proofs.Common.{ap, sym, ◌∙◌, ◌≡◌, false, rules}
use Rattle.std.proofs.lemmas.Bool.{or_from}
use Rattle.table_model.specs.inner.ActiveRuns.{has_active_leg}
use Rattle.table_model.specs.inner.Cells.{JobCells}
use Rattle.table_model.specs.Groups.{run_waits}
use Rattle.table_model.specs.Runs.{is_live}
use Rattle.table_model.proofs.AnyOf.{list_any-map}
use Rattle.table_model.proofs.run.Run.is_active.Goals as goal

pub returns-else-is_live : goal.returns-else-is_live
returns-else-is_live c =
    let waits_not : run_waits c.args.self.now.phase ≡ false = search rules in
    let live_not : is_live c.args.self.now.phase ≡ false = search rules in
    c.have_active_leg.ensures
    ∙ sym (list_any-map has_active_leg (λ (x : JobCells). x.state) c.jobs.result.now)
    ∙ ap (list_any has_active_leg) c.jobs.ensures
    ∙ ap (λ b. b || list_any has_active_leg c.args.self.now.jobs) (sym (or_from (run_waits c.args.self.now.phase) (is_live c.args.self.now.phase) waits_not live_not))
