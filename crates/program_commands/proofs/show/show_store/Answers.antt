use Rattle.act_store.specs.StoreState.{table_of}
use Rattle.program_commands.specs.Show.{shown}
use Rattle.program_commands.proofs.Showing.{flushed_what, passed_what}
use Rattle.program_commands.proofs.show.show_store.Goals as goal

pub returns-in_err-write_shown : goal.returns-in_err-write_shown
returns-in_err-write_shown g c =
    passed_what _ _ _ (shown c.args.form c.args.what (table_of c.args.store.now)) _ c.in_err-write_shown.field-0.0 c.from_residual.ensures.1
    c.in_err-write_shown.ensures

pub returns : goal.returns
returns g c =
    flushed_what _ _ _ (shown c.args.form c.args.what (table_of c.args.store.now)) _ c.flush.result c.in_ok-write_shown.ensures
    c.flush.ensures.kept c.flush.ensures.err
