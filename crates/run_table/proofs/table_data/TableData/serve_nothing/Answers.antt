use Rattle.std.proofs.Common.{ap, sym, ◌∙◌, Ok}
use Rattle.wf_value.proofs.PassedOn.{same_Ok}
use Rattle.table_model.specs.TableState.{RunnerState, TableState}
use Rattle.run_table.specs.inner.IndexNamed.{index_named}
use Rattle.run_table.proofs.ServedNothing.{served_nothing}
use Rattle.run_table.proofs.table_data.TableData.serve_nothing.Goals as goal

pub put-requires : goal.put-requires
put-requires c =
    c.requires.index ∙ ap (λ (t : TableState). index_named t.runners c.args.claim.now.runner) (sym c.self.view_is)
    ∙ ap (λ (r : RunnerState). index_named c.self.inside.runners r.name) (same_Ok _ _ c.in_ok-runner.ensures)

pub returns-clause-step : goal.returns-clause-step
returns-clause-step c =
    ap Ok
    (served_nothing c.args.self.now c.args.claim.now c.self.inside.last_lease c.self.inside.forgotten c.self.inside.runs c.self.inside.runners c.put.new.self
    c.in_ok-runner.runner c.requires.sound c.self.view_is (same_Ok _ _ c.in_ok-runner.ensures) (same_Ok _ _ c.in_ok-put.ensures.put))
