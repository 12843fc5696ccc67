use Rattle.std.proofs.Common.{ap, sym, ◌∙◌}
use Rattle.table_model.specs.Runs.{RunState}
use Rattle.table_runs.specs.inner.Counted.{number_among}
use Rattle.table_runs.proofs.rows.Rows.add.Goals as goal

pub add_numbered-requires-clause-number : goal.add_numbered-requires-clause-number
add_numbered-requires-clause-number c =
    c.requires.number ∙ ap (λ (run : RunState). number_among c.args.self.now.runs run.admitted) (sym c.sharing-run.ensures)
