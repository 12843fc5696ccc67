use Rattle.std.proofs.Common.{Some, None, ap, ◌∙◌}
use Rattle.table_model.specs.TableState.{TableState}
use Rattle.run_table.proofs.KnownDeliveries.{known_of_forgotten, known_of_runs}
use Rattle.run_table.proofs.table_data.TableData.run_of_delivery.Goals as goal

pub returns-in-Some : goal.returns-in-Some
returns-in-Some c =
    known_of_forgotten c.args.self.now c.args.delivery.now c.self.inside.forgotten c.in-Some.run' c.requires
    (ap (λ (t : TableState). t.forgotten) c.self.view_is) c.in-Some.ensures

pub returns-in_err-index : goal.returns-in_err-index
returns-in_err-index c =
    c.from_residual.ensures
    ∙ known_of_runs c.args.self.now c.args.delivery.now c.self.inside.forgotten c.self.inside.runs None c.requires
    (ap (λ (t : TableState). t.forgotten) c.self.view_is) (ap (λ (t : TableState). t.runs) c.self.view_is) c.in_default.ensures
    c.in_err-index.ensures.found

pub returns : goal.returns
returns c =
    ap Some c.id_at.ensures
    ∙ known_of_runs c.args.self.now c.args.delivery.now c.self.inside.forgotten c.self.inside.runs (Some c.in_ok-index.index) c.requires
    (ap (λ (t : TableState). t.forgotten) c.self.view_is) (ap (λ (t : TableState). t.runs) c.self.view_is) c.in_default.ensures
    c.in_ok-index.ensures.found
